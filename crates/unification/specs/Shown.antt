-- What classes of terms say of a solution.
use Rattle.std.specs.Prelude.{◌≡◌, ◌<◌, ℕ, List, [], ◌∷◌, length, Some, None, slice_index}
use Rattle.unification.specs.declared.classes.Classes.{Classes}
use Rattle.unification.specs.declared.term.Symbol.{Symbol}
use Rattle.unification.specs.declared.term.Term.{Term}
use Rattle.unification.specs.Solutions.{Substitution, IsMostGeneral}
use Rattle.unification.specs.Terms.{symbol_of, arguments_of, tree, equations}
use Rattle.unification.specs.Trees.{Tree, Trees, Open, Made, NoTrees, AndTree, substituted}

-- the class of a term, by one of its terms, and the term of a class that says what it is
abbrev pub class_of : Classes → ℕ → ℕ
class_of c i = slice_index c.class.items i

abbrev pub kept_of : Classes → ℕ → ℕ
kept_of c r = slice_index c.kept.items r

mutual
  -- A class whose kept term is a variable stands for its own variable, else for the symbol of that
  -- term with what the classes of its arguments stand for.
  pub data ClassStandsForTree (terms : List Term) (c : Classes) : ℕ → Tree → Type 0 where
    free : {r : ℕ} → symbol_of terms (kept_of c r) ≡ None → ClassStandsForTree terms c r (Open r)
    made : {r : ℕ} {s : Symbol} {ts : Trees}
        → symbol_of terms (kept_of c r) ≡ Some s
        → ClassesStandForTrees terms c (arguments_of terms (kept_of c r)) ts
        → ClassStandsForTree terms c r (Made s ts)

  pub data ClassesStandForTrees (terms : List Term) (c : Classes) : List ℕ → Trees → Type 0 where
    none : ClassesStandForTrees terms c [] NoTrees
    and : {x : ℕ} {t : Tree} {xs : List ℕ} {ts : Trees}
        → ClassStandsForTree terms c (class_of c x) t
        → ClassesStandForTrees terms c xs ts
        → ClassesStandForTrees terms c (x ∷ xs) (AndTree t ts)

-- what the classes of terms stand for
abbrev pub ShowsTrees : List Term → Classes → (ℕ → Tree) → Type 0
ShowsTrees terms c v = (i : ℕ) → i < length terms → ClassStandsForTree terms c (class_of c i) (v i)

-- So many terms have a class, which goes by one of them.
pub record AreClasses (n : ℕ) (c : Classes) : Type 0 where
  pub classes : length c.class.items ≡ n
  pub keeps : length c.kept.items ≡ n
  pub within : (i : ℕ) → i < n → class_of c i < n

-- Classes of these terms that show what each of them becomes by the most general solution of
-- equations.
pub record IsSolved (terms : List Term) (pairs : List (ℕ × ℕ)) (c : Classes) : Type 0 where
  pub classes : AreClasses (length terms) c
  pub solution : Substitution
  pub general : IsMostGeneral solution (equations terms pairs)
  pub shows : ShowsTrees terms c (λ i. substituted solution (tree terms i))
