use Rattle.std.proofs.Common.{◌≡◌, ◌<◌, ℕ, List, length, sym, subst, ◌∙◌, Option, Some, None}
use Rattle.std.specs.Prelude.{MatchOption, take}
use Rattle.seq.proofs.Lists.{some_at}
use Rattle.unification.specs.declared.classes.Classes.{Classes}
use Rattle.unification.specs.declared.term.Term.{Term}
use Rattle.unification.specs.Shown.{IsSolved}
use Rattle.unification.specs.Solutions.{AreUnsolvable, Solves}
use Rattle.unification.specs.Terms.{PairsAreBelow, equations}
use Rattle.unification.proofs.Solving.{below_taken, equations_taken}
use Rattle.core_types.specs.declared.building.ConstraintBuilder.{ConstraintBuilder}
use Rattle.core_types.specs.Sides.{type_of}
use Rattle.core_types.proofs.Unsolved.{pairs_below}
use Rattle.core_types.proofs.BothSides.{pair_below, solved_by, shown_by, both_sides}
use Rattle.core_types.proofs.sides.sides.Goals as goal

pub solve-requires-clause-below : goal.solve-requires-clause-below
solve-requires-clause-below c =
    let b : ConstraintBuilder = c.args.builder.now in
    subst (λ (ts : List Term). PairsAreBelow (length ts)
    (take c.args.number c.as_slice-pairs.result.now)) (sym c.as_slice-terms.ensures.value)
    (subst (λ (ps : List (ℕ × ℕ)). PairsAreBelow (length b.nodes.terms.items)
    (take c.args.number ps)) (sym c.as_slice-pairs.ensures.value)
    (below_taken (length b.nodes.terms.items) c.args.number b.pairs.items
    (pairs_below b c.requires.stands.0 c.requires.stands.1)))

pub side-requires-clause-within : goal.side-requires-clause-within
side-requires-clause-within c =
    let b : ConstraintBuilder = c.args.builder.now in
    let l = pair_below (length b.nodes.terms.items) b.pairs.items c.args.number c.in-Some.pair
    (pairs_below b c.requires.stands.0 c.requires.stands.1)
    (sym c.pair_at.ensures ∙ c.in-Some.is) in
    subst (λ (ts : List Term). c.in-Some.pair.0 < length ts) (sym c.as_slice-terms.ensures.value)
    l.0

pub side-requires-2-clause-within : goal.side-requires-2-clause-within
side-requires-2-clause-within c =
    let b : ConstraintBuilder = c.args.builder.now in
    let l = pair_below (length b.nodes.terms.items) b.pairs.items c.args.number c.in-Some.pair
    (pairs_below b c.requires.stands.0 c.requires.stands.1)
    (sym c.pair_at.ensures ∙ c.in-Some.is) in
    subst (λ (ts : List Term). c.in-Some.pair.1 < length ts) (sym c.as_slice-terms.ensures.value)
    l.1

pub side-requires-clause-shows : goal.side-requires-clause-shows
side-requires-clause-shows c = shown_by c.as_slice-terms.result.now
    (take c.args.number c.as_slice-pairs.result.now) c.in_ok-before.before c.in-Some-before.classes
    c.in-Some-before.is c.in_ok-before.ensures

pub side-requires-2-clause-shows : goal.side-requires-2-clause-shows
side-requires-2-clause-shows c = shown_by c.as_slice-terms.result.now
    (take c.args.number c.as_slice-pairs.result.now) c.in_ok-before.before c.in-Some-before.classes
    c.in-Some-before.is c.in_ok-before.ensures

pub returns : goal.returns
returns c = λ cs k stands e.
    let b : ConstraintBuilder = c.args.builder.now in
    let ts : List Term = c.as_slice-terms.result.now in
    let ps : List (ℕ × ℕ) = c.as_slice-pairs.result.now in
    let solved = solved_by ts (take c.args.number ps) c.in_ok-before.before c.in-Some-before.classes
    c.in-Some-before.is c.in_ok-before.ensures in
    both_sides b cs c.requires.sound stands c.args.number k c.in-Some.pair e
    (sym c.pair_at.ensures ∙ c.in-Some.is) c.in-Some-before.classes (type_of c.in_ok-left.left)
    (type_of c.in_ok-right.right) ts ps c.as_slice-terms.ensures.value
    c.as_slice-pairs.ensures.value solved c.in_ok-left.ensures c.in_ok-right.ensures

pub unreachable-requires : goal.unreachable-requires
unreachable-requires c =
    let f = some_at c.args.builder.now.pairs.items c.args.number c.requires.within in
    let none : Some f.0 ≡ None = sym f.1 ∙ sym c.pair_at.ensures ∙ c.in_default.is in
    absurd cc

pub unreachable-requires-in_default-before : goal.unreachable-requires-in_default-before
unreachable-requires-in_default-before c =
    let b : ConstraintBuilder = c.args.builder.now in
    let n : ℕ = c.args.number in
    let ts : List Term = c.as_slice-terms.result.now in
    let ps : List (ℕ × ℕ) = c.as_slice-pairs.result.now in
    let none : AreUnsolvable (equations ts (take n ps))
    = subst (λ (o : Option Classes). MatchOption o (AreUnsolvable (equations ts (take n ps)))
    (IsSolved ts (take n ps))) c.in_default-before.is c.in_ok-before.ensures in
    let σ = c.requires.solvable.0 in
    let taken : Solves σ (equations b.nodes.terms.items (take n b.pairs.items))
    = subst (Solves σ) (sym (equations_taken b.nodes.terms.items b.pairs.items n))
    c.requires.solvable.1 in
    none σ (subst (λ ts. Solves σ (equations ts (take n ps))) (sym c.as_slice-terms.ensures.value)
    (subst (λ ps. Solves σ (equations b.nodes.terms.items (take n ps)))
    (sym c.as_slice-pairs.ensures.value) taken))
