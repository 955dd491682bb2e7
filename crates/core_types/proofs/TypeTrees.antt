-- What classes of terms show is a type where each symbol of the terms has as many arguments as in
-- types.
use Rattle.std.proofs.Common.{◌≡◌, ℕ, suc, List, length, refl, sym, ap, subst, Option, Some, None}
use Rattle.std.specs.Prelude.{slice_get}
use Rattle.unification.specs.declared.classes.Classes.{Classes}
use Rattle.unification.specs.declared.term.Symbol.{Symbol}
use Rattle.unification.specs.declared.term.Term.{Term}
use Rattle.unification.specs.declared.term.Term.TheVariants as term
use Rattle.unification.specs.Pieces.{tree_count}
use Rattle.unification.specs.Shown.{kept_of, ClassStandsForTree, ClassesStandForTrees, free, made, none, and}
use Rattle.unification.specs.Terms.{symbol_in, arguments_in, symbol_of, arguments_of}
use Rattle.unification.specs.Trees.{Tree, Trees}
use Rattle.core_types.specs.Nodes.{TakesArguments, HasItsArguments, HaveTheirArguments}
use Rattle.core_types.specs.Sides.{IsTypeTree, AreTypeTrees}

takes : (o : Option Term) (s : Symbol) → HasItsArguments o → symbol_in o ≡ Some s
    → TakesArguments s (length (arguments_in o))
takes None s h e = absurd cc
takes (Some term.Variable) s h e = absurd cc
takes (Some (term.Made u xs)) s h e =
    let same : u ≡ s = cc in subst (λ s. TakesArguments s (length xs)) same h

module _ (terms : List Term) (c : Classes) (h : HaveTheirArguments terms) where
  as_many : (xs : List ℕ) (ts : Trees) → ClassesStandForTrees terms c xs ts
      → length xs ≡ tree_count ts
  as_many _ _ none = refl
  as_many _ _ (and d ds) = ap suc (as_many _ _ ds)

  mutual
    pub shown_is_type : (r : ℕ) (t : Tree) → ClassStandsForTree terms c r t → IsTypeTree t
    shown_is_type r _ (free e) = tt
    shown_is_type r _ (made {s = s} e ds) = (
      subst (TakesArguments s) (as_many _ _ ds)
          (takes (slice_get terms (kept_of c r)) s (h (kept_of c r)) e),
      shown_are_types _ _ ds,
    )

    shown_are_types : (xs : List ℕ) (ts : Trees) → ClassesStandForTrees terms c xs ts
        → AreTypeTrees ts
    shown_are_types _ _ none = tt
    shown_are_types _ _ (and d ds) = (shown_is_type _ _ d, shown_are_types _ _ ds)
