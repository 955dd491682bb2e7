use Rattle.std.proofs.Common.{◌≡◌, [], ◌∷◌, ◌++◌, map, refl, sym, ap, ◌∙◌, arith}
use Rattle.core_reader.specs.declared.syntax.App.{App}
use Rattle.core_reader.specs.Tree.{term as term_of, terms_of, application}
use Rattle.core_types.specs.declared.building.ConstraintBuilder.{ConstraintBuilder}
use Rattle.core_types.specs.Typing.{Open, AtBracket, within_term, within_terms, of_app}
use Rattle.core_types.specs.Building.{application_constraint, Adds}
use Rattle.arity_check.proofs.Flats.{some_members, no_members}
use Rattle.core_types.proofs.Heads.{one_within}
use Rattle.core_types.proofs.Applied.{with_some, parts_are, lone_within, some_within}
use Rattle.core_types.proofs.Adding.{adds_nodes, adds_then, adds_as, at_kept}
use Rattle.core_types.proofs.building.ConstraintBuilder.+applications.Goals as goal

pub application-returns : goal.application-returns
application-returns g c = λ s ls t k i d.
    let b : ConstraintBuilder = c.args.self.now in
    let b1 = c.applied-2.new.self in
    let b2 = c.within_term.new.self in
    let b3 = c.within_terms.new.self in
    let app : App = c.args.app.now in
    let own = application_constraint s ls t (application app) ∷ [] in
    let head = within_term s ls (term_of app.head) in
    let args = within_terms s ls (terms_of (map term_of c.as_slice.result.now)) in
    let some = some_members app.args c.is_empty.result c.is_empty.ensures c.if-is_empty.false in
    let o = c.in_ok-applied.ensures s ls t k i d in
    let h = c.in_ok-within_term.ensures s ls k (at_kept b b1 own ls o i) in
    let a = c.in_ok-within_terms.ensures s ls k (at_kept b1 b2 head ls h (at_kept b b1 own ls o i))
    in
    adds_as b b3 (own ++ (head ++ args)) (of_app s ls t (application app))
    (with_some s ls t app some ∙ parts_are s ls t app ∙ ap
    (λ atoms. own ++ (head ++ within_terms s ls (terms_of (map term_of atoms))))
    (sym c.as_slice.ensures))
    (adds_then b b1 b3 own (head ++ args) o (adds_then b1 b2 b3 head args h a))

pub within_term-returns-then-is_empty : goal.within_term-returns-then-is_empty
within_term-returns-then-is_empty g c = λ s ls k i.
    let app : App = c.in-Bracket.app.value in
    let none : app.args ≡ [] = ap (λ (a : App). a.args) (sym c.deref.ensures) ∙ no_members
    c.deref.result.now.args c.is_empty.result c.is_empty.ensures c.if-is_empty.true in
    adds_as c.args.self.now c.within_term.new.self _ (within_term s ls (term_of c.args.atom.now))
    (lone_within s ls c.args.atom.now c.in-Bracket.app c.in-Bracket.at c.in-Bracket.is none ∙ ap
    (λ (a : App). within_term s ls (term_of a.head)) (sym c.deref-then-is_empty.ensures))
    (c.in_ok-within_term-in-Bracket.ensures s ls k i)

pub within_term-returns-in_ok-application-in-Bracket
    : goal.within_term-returns-in_ok-application-in-Bracket
within_term-returns-in_ok-application-in-Bracket g c = λ s ls k i.
    let b : ConstraintBuilder = c.args.self.now in
    let b1 : ConstraintBuilder = record b { nodes = c.variable.new.self } in
    let app : App = c.in-Bracket.app.value in
    let at = c.in-Bracket.at in
    let some : app.args ≡ [] → ⊥ = λ e. some_members c.deref.result.now.args c.is_empty.result
    c.is_empty.ensures c.if-is_empty.false (ap (λ (a : App). a.args) c.deref.ensures ∙ e) in
    let v = c.in_ok-expected-in-Bracket.ensures i.sound in
    let first : Adds b b1 [] = adds_nodes b b1 v.grows refl refl refl in
    let inner = of_app s ls (Open (AtBracket at)) (application c.deref-in-Bracket.result.now) in
    adds_as b c.application.new.self inner (within_term s ls (term_of c.args.atom.now))
    (some_within s ls c.args.atom.now c.in-Bracket.app at c.in-Bracket.is some ∙ ap
    (λ (a : App). of_app s ls (Open (AtBracket at)) (application a))
    (sym c.deref-in-Bracket.ensures))
    (adds_then b b1 c.application.new.self [] inner first
    (c.in_ok-application-in-Bracket.ensures s ls (Open (AtBracket at)) k
    (at_kept b b1 [] ls first i) v.denotes))

pub within_terms-loop-atom-preserved : goal.within_terms-loop-atom-preserved
within_terms-loop-atom-preserved g c = λ s ls k i.
    let a = c.args.self.now in
    let b = c.loop-atom.self in
    let h = c.loop-atom.invariant s ls k i in
    adds_as a c.within_term.new.self _ _
    (one_within s ls c.args.atoms.now c.loop-atom.atom-index c.atom-item.result (omega arith)
    c.atom-item.is)
    (adds_then a b c.within_term.new.self _ (within_term s ls (term_of c.atom-item.result)) h
    (c.in_ok-within_term.ensures s ls k (at_kept a b _ ls h i)))
