use Rattle.std.proofs.Common.{◌∙◌, refl}
use Rattle.std.proofs.lemmas.Result.{err_from_is_err_and}
use Rattle.core_reader.specs.Machine.{front}
use Rattle.core_reader.specs.declared.token.Token.TheVariants as word
use Rattle.core_reader.specs.declared.token.Further.TheVariants as further
use Rattle.core_link.specs.Heading.{Start, ModuleName, NameEnd, Exports, named}
use Rattle.core_link.proofs.Taken.{takes, refuses, fails_from, no_start, no_end}
use Rattle.core_link.proofs.header.Header.read.Goals as goal

pub returns-in_err-take-clause-reads : goal.returns-in_err-take-clause-reads
returns-in_err-take-clause-reads c =
    let q = err_from_is_err_and c.from_residual.result c.from_residual.ensures.1 in
    let ts = c.args.parser.now.rest.now in
    rw (q.1, q.2)
    (refuses Start ts c.in_err-take.field-0.0 refl c.in_err-take.ensures.takes.1
    (no_start (front ts).token (front ts).at c.in_err-take.ensures.takes.0))

pub returns-in_err-name-clause-reads : goal.returns-in_err-name-clause-reads
returns-in_err-name-clause-reads c =
    let q = err_from_is_err_and c.from_residual-in_err-name.result
    c.from_residual-in_err-name.ensures.1 in
    let ts = c.args.parser.now.rest.now in
    let begun = takes Start ModuleName ts (front ts) (word.Further further.Module)
    c.take.new.self.rest.now refl refl c.in_ok-take.ensures.takes.0 c.in_ok-take.ensures.takes.1
    refl in
    rw (q.1, q.2) (fails_from c.in_err-name.field-0.0 _ _ begun c.in_err-name.ensures.reads)

pub returns-in_err-take-2-clause-reads : goal.returns-in_err-take-2-clause-reads
returns-in_err-take-2-clause-reads c =
    let q = err_from_is_err_and c.from_residual-in_err-take-2.result
    c.from_residual-in_err-take-2.ensures.1 in
    let ts = c.args.parser.now.rest.now in
    let ts2 = c.module_name.new.parser.rest.now in
    let begun = takes Start ModuleName ts (front ts) (word.Further further.Module)
    c.take.new.self.rest.now refl refl c.in_ok-take.ensures.takes.0 c.in_ok-take.ensures.takes.1
    refl in
    rw (q.1, q.2) (fails_from c.in_err-take-2.field-0.0 _ _ (begun ∙ c.in_ok-name.ensures.reads)
    (refuses (NameEnd c.in_ok-name.name) ts2 c.in_err-take-2.field-0.0 refl
    c.in_err-take-2.ensures.takes.1
    (no_end c.in_ok-name.name (front ts2).token (front ts2).at
    c.in_err-take-2.ensures.takes.0)))

pub returns-in_err-exports-clause-reads : goal.returns-in_err-exports-clause-reads
returns-in_err-exports-clause-reads c =
    let q = err_from_is_err_and c.from_residual-in_err-exports.result
    c.from_residual-in_err-exports.ensures.1 in
    let ts = c.args.parser.now.rest.now in
    let ts2 = c.module_name.new.parser.rest.now in
    let n = c.in_ok-name.name in
    let begun = takes Start ModuleName ts (front ts) (word.Further further.Module)
    c.take.new.self.rest.now refl refl c.in_ok-take.ensures.takes.0 c.in_ok-take.ensures.takes.1
    refl in
    let ended = takes (NameEnd n) (Exports (named n)) ts2 (front ts2) word.Semicolon
    c.take-2.new.self.rest.now refl refl c.in_ok-take-2.ensures.takes.0
    c.in_ok-take-2.ensures.takes.1 refl in
    rw (q.1, q.2)
    (fails_from c.in_err-exports.field-0.0 _ _ (begun ∙ c.in_ok-name.ensures.reads ∙ ended)
    (c.in_err-exports.ensures.reads n))

pub returns-in_err-imports-clause-reads : goal.returns-in_err-imports-clause-reads
returns-in_err-imports-clause-reads c =
    let q = err_from_is_err_and c.from_residual-in_err-imports.result
    c.from_residual-in_err-imports.ensures.1 in
    let ts = c.args.parser.now.rest.now in
    let ts2 = c.module_name.new.parser.rest.now in
    let n = c.in_ok-name.name in
    let begun = takes Start ModuleName ts (front ts) (word.Further further.Module)
    c.take.new.self.rest.now refl refl c.in_ok-take.ensures.takes.0 c.in_ok-take.ensures.takes.1
    refl in
    let ended = takes (NameEnd n) (Exports (named n)) ts2 (front ts2) word.Semicolon
    c.take-2.new.self.rest.now refl refl c.in_ok-take-2.ensures.takes.0
    c.in_ok-take-2.ensures.takes.1 refl in
    rw (q.1, q.2)
    (fails_from c.in_err-imports.field-0.0 _ _
    (begun ∙ c.in_ok-name.ensures.reads ∙ ended ∙ c.in_ok-exports.ensures.reads n)
    (c.in_err-imports.ensures.reads n c.in_ok-exports.exports.items))

pub returns-clause-reads : goal.returns-clause-reads
returns-clause-reads c =
    let ts = c.args.parser.now.rest.now in
    let ts2 = c.module_name.new.parser.rest.now in
    let n = c.in_ok-name.name in
    takes Start ModuleName ts (front ts) (word.Further further.Module) c.take.new.self.rest.now refl
    refl c.in_ok-take.ensures.takes.0 c.in_ok-take.ensures.takes.1 refl
    ∙ c.in_ok-name.ensures.reads
    ∙ takes (NameEnd n) (Exports (named n)) ts2 (front ts2) word.Semicolon
    c.take-2.new.self.rest.now refl refl c.in_ok-take-2.ensures.takes.0
    c.in_ok-take-2.ensures.takes.1 refl
    ∙ c.in_ok-exports.ensures.reads n
    ∙ c.in_ok-imports.ensures.reads n c.in_ok-exports.exports.items
