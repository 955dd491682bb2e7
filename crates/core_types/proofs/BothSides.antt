-- The sides of a constraint, by what unification leaves of its terms.
use Rattle.std.proofs.Common.{◌≡◌, ℕ, zero, suc, ◌<◌, List, [], ◌∷◌, sym, subst, ◌∙◌, Option, Some}
use Rattle.std.specs.Prelude.{slice_get, take, MatchOption}
use Rattle.seq.specs.Lists.{In, here, there}
use Rattle.seq.proofs.Lists.{some_is, none_is_some}
use Rattle.unification.specs.declared.classes.Classes.{Classes}
use Rattle.unification.specs.declared.term.Term.{Term}
use Rattle.unification.specs.Shown.{IsSolved, ShowsTrees}
use Rattle.unification.specs.Terms.{PairsAreBelow, tree, equations}
use Rattle.unification.specs.Solutions.{AreUnsolvable}
use Rattle.unification.specs.Trees.{Tree, substituted}
use Rattle.core_types.specs.declared.building.ConstraintBuilder.{ConstraintBuilder}
use Rattle.core_types.specs.Typing.{Typed, Constraint}
use Rattle.core_types.specs.Nodes.{IsSound}
use Rattle.core_types.specs.Building.{Stands}
use Rattle.core_types.specs.Sides.{typed_of, AreSides}
use Rattle.core_types.proofs.Solving.{sides_shown}

in_list : {T : Type 0} (xs : List T) (i : ℕ) (x : T) → slice_get xs i ≡ Some x → In x xs
in_list [] i x e = none_is_some e
in_list (y ∷ xs) zero x e = subst (λ z. In x (z ∷ xs)) (sym (some_is e)) here
in_list (y ∷ xs) (suc i) x e = there (in_list xs i x e)

pub pair_below : (n : ℕ) (ps : List (ℕ × ℕ)) (k : ℕ) (p : ℕ × ℕ) → PairsAreBelow n ps
    → slice_get ps k ≡ Some p → (p.0 < n) × (p.1 < n)
pair_below n ps k p h e = h p (in_list ps k p e)

-- what unification found shows what each term becomes
module _ (ts : List Term) (ps : List (ℕ × ℕ)) (found : Option Classes) (c : Classes)
    (is : found ≡ Some c)
    (h : MatchOption found (AreUnsolvable (equations ts ps)) (IsSolved ts ps)) where
  pub solved_by : IsSolved ts ps c
  solved_by = subst (λ (o : Option Classes). MatchOption o (AreUnsolvable (equations ts ps))
      (IsSolved ts ps)) is h

  pub shown_by : (v : ℕ → Tree) × ShowsTrees ts c v
  shown_by = ((λ i. substituted solved_by.solution (tree ts i)), solved_by.shows)

module _ (b : ConstraintBuilder) (cs : List Constraint) (h : IsSound b.nodes) (s : Stands b cs)
    (k : ℕ) (c : Constraint) (p : ℕ × ℕ) (is : slice_get cs k ≡ Some c)
    (at : slice_get b.pairs.items k ≡ Some p) (classes : Classes) (l r : Typed) where
  abbrev Gives : List Term → List (ℕ × ℕ) → Type 0
  Gives ts ps = IsSolved ts (take k ps) classes →
      ((v : ℕ → Tree) → ShowsTrees ts classes v → l ≡ typed_of (v p.0))
      → ((v : ℕ → Tree) → ShowsTrees ts classes v → r ≡ typed_of (v p.1))
      → AreSides (take k cs) c l r

  given : Gives b.nodes.terms.items b.pairs.items
  given solved left right =
      let a = sides_shown b.nodes h cs b.pairs.items s.pairs k c p is at solved.solution
      solved.general in
      let v : ℕ → Tree = λ i. substituted solved.solution (tree b.nodes.terms.items i) in
      record {
        solution = a.solution;
        general = a.general;
        is_left
            = left v solved.shows ∙ a.is_left;
        is_right = right v solved.shows ∙ a.is_right;
      }

  pub both_sides : (ts : List Term) (ps : List (ℕ × ℕ)) → ts ≡ b.nodes.terms.items
      → ps ≡ b.pairs.items → Gives ts ps
  both_sides ts ps e f = subst (λ ts. Gives ts ps) (sym e)
      (subst (Gives b.nodes.terms.items) (sym f) given)
