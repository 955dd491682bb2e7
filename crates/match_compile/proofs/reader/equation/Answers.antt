use Rattle.std.proofs.Common.{◌≡◌, ◌++◌, ◌∷◌, [], map, ◌∙◌, ap, sym, refl, arith}
use Rattle.std.proofs.lemmas.Result.{err_from_is_err_and}
use Rattle.core_reader.specs.Tree.{NoTerms}
use Rattle.core_reader.specs.Tree as tree
use Rattle.core_reader.specs.Machine.{Outermost, nests, Ended, InBody, Apply, front}
use Rattle.core_reader.specs.AroundOf.{Outside, Within}
use Rattle.core_reader.specs.declared.token.Token.TheVariants as word
use Rattle.match_compile.specs.SourceOf.{pat_of, pats_of}
use Rattle.match_compile.specs.Reading.{InLine, Matching, InEquation, equated, top, run, opens}
use Rattle.match_compile.proofs.Taken.{takes, refuses, fails_from, body_read, body_fails, no_equals, no_end, naming, begun}
use Rattle.match_compile.proofs.reader.equation.Goals as goal

pub returns-in_err-pats-clause-reads : goal.returns-in_err-pats-clause-reads
returns-in_err-pats-clause-reads c = λ ds.
    let q = err_from_is_err_and c.from_residual.result c.from_residual.ensures.1 in
    let named = naming ds c.args.name c.args.at c.args.parser.now.rest.now
    c.advance.new.self.rest.now c.requires.name c.requires.at c.advance.ensures.rest in
    let d : opens InLine ≡ c.advance.new.self.depth = omega arith in
    rw (q.1, q.2)
    (fails_from c.in_err-pats.field-0.0 _ _ named
    (c.in_err-pats.ensures.reads (begun ds c.args.name c.args.at) InLine d))

pub returns-in_err-take-clause-reads : goal.returns-in_err-take-clause-reads
returns-in_err-take-clause-reads c = λ ds.
    let q = err_from_is_err_and c.from_residual-in_err-take.result
    c.from_residual-in_err-take.ensures.1 in
    let ts2 = c.patterns.new.parser.rest.now in
    let b = begun ds c.args.name c.args.at in
    let pats = pats_of (map pat_of c.in_ok-pats.pats.items) in
    let named = naming ds c.args.name c.args.at c.args.parser.now.rest.now
    c.advance.new.self.rest.now c.requires.name c.requires.at c.advance.ensures.rest in
    let d : opens InLine ≡ c.advance.new.self.depth = omega arith in
    rw (q.1, q.2)
    (fails_from c.in_err-take.field-0.0 _ _ (named ∙ c.in_ok-pats.ensures.reads b InLine d)
    (refuses (Outside (Matching b InLine pats)) ts2 c.in_err-take.field-0.0
    c.in_err-take.ensures.takes.1
    (no_equals b pats (front ts2).at (front ts2).token c.in_ok-pats.ensures.whole
    c.in_err-take.ensures.takes.0)))

pub returns-in_err-body-clause-reads : goal.returns-in_err-body-clause-reads
returns-in_err-body-clause-reads c = λ ds.
    let q = err_from_is_err_and c.from_residual-in_err-body.result
    c.from_residual-in_err-body.ensures.1 in
    let ts2 = c.patterns.new.parser.rest.now in
    let b = begun ds c.args.name c.args.at in
    let pats = pats_of (map pat_of c.in_ok-pats.pats.items) in
    let named = naming ds c.args.name c.args.at c.args.parser.now.rest.now
    c.advance.new.self.rest.now c.requires.name c.requires.at c.advance.ensures.rest in
    let d : opens InLine ≡ c.advance.new.self.depth = omega arith in
    let k = InEquation b pats in
    let equals = takes (Outside (Matching b InLine pats))
    (Within k (Apply (InBody Outermost) NoTerms)) ts2 (front ts2) word.Equals
    c.take.new.self.rest.now refl c.in_ok-take.ensures.takes.0 c.in_ok-take.ensures.takes.1 refl
    in
    let n : nests Outermost ≡ c.take.new.self.depth = omega (arith, c.in_ok-pats.ensures.depth) in
    rw (q.1, q.2)
    (fails_from c.in_err-body.field-0.0 _ _
    (named ∙ c.in_ok-pats.ensures.reads b InLine d ∙ equals)
    (body_fails k c.in_err-body.field-0.0 (Apply (InBody Outermost) NoTerms)
    c.take.new.self.rest.now (c.in_err-body.ensures.reads Outermost n)))

pub returns-in_err-take-2-clause-reads : goal.returns-in_err-take-2-clause-reads
returns-in_err-take-2-clause-reads c = λ ds.
    let q = err_from_is_err_and c.from_residual-in_err-take-2.result
    c.from_residual-in_err-take-2.ensures.1 in
    let ts2 = c.patterns.new.parser.rest.now in
    let ts4 = c.expr.new.self.rest.now in
    let b = begun ds c.args.name c.args.at in
    let pats = pats_of (map pat_of c.in_ok-pats.pats.items) in
    let named = naming ds c.args.name c.args.at c.args.parser.now.rest.now
    c.advance.new.self.rest.now c.requires.name c.requires.at c.advance.ensures.rest in
    let d : opens InLine ≡ c.advance.new.self.depth = omega arith in
    let k = InEquation b pats in
    let equals = takes (Outside (Matching b InLine pats))
    (Within k (Apply (InBody Outermost) NoTerms)) ts2 (front ts2) word.Equals
    c.take.new.self.rest.now refl c.in_ok-take.ensures.takes.0 c.in_ok-take.ensures.takes.1 refl
    in
    let n : nests Outermost ≡ c.take.new.self.depth = omega (arith, c.in_ok-pats.ensures.depth) in
    rw (q.1, q.2)
    (fails_from c.in_err-take-2.field-0.0 _ _
    (named ∙ c.in_ok-pats.ensures.reads b InLine d ∙ equals ∙ body_read k
    (tree.expr c.in_ok-body.body) c.take.new.self.rest.now ts4
    (c.in_ok-body.ensures.reads Outermost n))
    (refuses (Within k (Ended Outermost (tree.expr c.in_ok-body.body))) ts4
    c.in_err-take-2.field-0.0 c.in_err-take-2.ensures.takes.1
    (no_end b pats (tree.expr c.in_ok-body.body) (front ts4).at (front ts4).token
    c.in_err-take-2.ensures.takes.0)))

pub returns-clause-reads : goal.returns-clause-reads
returns-clause-reads c = λ ds.
    let ts2 = c.patterns.new.parser.rest.now in
    let ts4 = c.expr.new.self.rest.now in
    let b = begun ds c.args.name c.args.at in
    let pats = pats_of (map pat_of c.in_ok-pats.pats.items) in
    let named = naming ds c.args.name c.args.at c.args.parser.now.rest.now
    c.advance.new.self.rest.now c.requires.name c.requires.at c.advance.ensures.rest in
    let d : opens InLine ≡ c.advance.new.self.depth = omega arith in
    let k = InEquation b pats in
    let equals = takes (Outside (Matching b InLine pats))
    (Within k (Apply (InBody Outermost) NoTerms)) ts2 (front ts2) word.Equals
    c.take.new.self.rest.now refl c.in_ok-take.ensures.takes.0 c.in_ok-take.ensures.takes.1 refl
    in
    let n : nests Outermost ≡ c.take.new.self.depth = omega (arith, c.in_ok-pats.ensures.depth) in
    named ∙ c.in_ok-pats.ensures.reads b InLine d ∙ equals ∙ body_read k
    (tree.expr c.in_ok-body.body) c.take.new.self.rest.now ts4
    (c.in_ok-body.ensures.reads Outermost n)
    ∙ takes (Within k (Ended Outermost (tree.expr c.in_ok-body.body))) _ ts4 (front ts4)
    word.Semicolon _ refl c.in_ok-take-2.ensures.takes.0 c.in_ok-take-2.ensures.takes.1 refl
    ∙ ap (λ w. run
    (top (ds ++ equated b (pats_of (map pat_of w)) (tree.expr c.in_ok-body.body) ∷ []))
    c.take-2.new.self.rest.now) (sym c.from_vec.ensures)
