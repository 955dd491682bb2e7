use Rattle.std.proofs.Common.{rules, ◌≡◌, ap, sym, ◌∙◌, [], ◌∷◌, ◌++◌, map, subst}
use Rattle.std.proofs.lemmas.Result.{err_from_is_err_and}
use Rattle.seq.proofs.Lists.{map_push}
use Rattle.core_reader.specs.declared.token.Token.TheVariants as word
use Rattle.core_reader.specs.declared.token.Further.TheVariants as further
use Rattle.core_link.specs.ModuleOf.{import_of}
use Rattle.core_link.specs.Heading.{ImportName, head, run}
use Rattle.core_link.proofs.Taken.{takes, fails_from, import_state, import_word, state_bad, one_import, no_export_last, NoExport, declares}
use Rattle.core_link.proofs.header.imports.Goals as goal

pub loop-imports-preserved : goal.loop-imports-preserved
loop-imports-preserved c =
    let t : c.peek-next.result.token ≡ word.Further further.Import = search rules in
    let before = map import_of c.loop-imports.imports.items in
    let i = import_of c.in_ok-import.import in
    let after : map import_of c.push.new.self.items ≡ before ++ i ∷ []
    = ap (map import_of) c.in_ok-push.ensures.items ∙ map_push import_of
    c.loop-imports.imports.items c.in_ok-import.import in
    let rest = c.import.new.parser.rest.now in
    record {
      reads = λ name exports.
          let h = head name exports before in
          c.loop-imports.invariant.reads name exports
          ∙ takes (import_state name exports before) (ImportName h) c.loop-imports.parser.rest.now
          c.peek-next.result (word.Further further.Import) c.advance.new.self.rest.now
          (state_bad name exports before) c.peek-next.ensures t c.advance.ensures.rest
          (import_word name exports before c.peek-next.result.at)
          ∙ c.in_ok-import.ensures.reads h
          ∙ one_import name exports before i rest
          ∙ ap (λ w. run (import_state name exports w) rest) (sym after);
      no_export = subst (λ w. NoExport w rest) (sym after) (no_export_last before i rest);
      depth = c.in_ok-import.ensures.depth ∙ c.advance.ensures.depth ∙
          c.loop-imports.invariant.depth;
    }

pub returns-in_err-import-clause-reads : goal.returns-in_err-import-clause-reads
returns-in_err-import-clause-reads c = λ name exports.
    let q = err_from_is_err_and c.from_residual.result c.from_residual.ensures.1 in
    let t : c.peek-next.result.token ≡ word.Further further.Import = search rules in
    let before = map import_of c.loop-imports.imports.items in
    let h = head name exports before in
    let begun = c.loop-imports.invariant.reads name exports
    ∙ takes (import_state name exports before) (ImportName h) c.loop-imports.parser.rest.now
    c.peek-next.result (word.Further further.Import) c.advance.new.self.rest.now
    (state_bad name exports before) c.peek-next.ensures t c.advance.ensures.rest
    (import_word name exports before c.peek-next.result.at) in
    rw (q.1, q.2) (fails_from c.in_err-import.field-0.0 _ _ begun (c.in_err-import.ensures.reads h))

pub returns-then-ne-clause-reads : goal.returns-then-ne-clause-reads
returns-then-ne-clause-reads c = λ name exports.
    let before = map import_of c.loop-imports.imports.items in
    let ts = c.loop-imports.parser.rest.now in
    c.loop-imports.invariant.reads name exports
    ∙ declares name exports before ts c.loop-imports.invariant.no_export
    (λ e. let f : c.peek-next.result.token ≡ word.Further further.Import
    = ap (λ y. y.token) c.peek-next.ensures ∙ e in search rules)
