-- A walk over classes, which finds that none stands within itself.
use Rattle.std.specs.Prelude.{◌≡◌, ◌<◌, ◌≤◌, ◌+◌, ◌-◌, ℕ, suc, List, [], ◌∷◌, ◌++◌, length, Option, Some, None, slice_get, slice_set}
use Rattle.unification.specs.declared.classes.Classes.{Classes}
use Rattle.unification.specs.declared.term.Term.{Term}
use Rattle.unification.specs.declared.walk.VisitMark.{VisitMark}
use Rattle.unification.specs.declared.walk.VisitMark.TheVariants.{Unseen, Entered, Done}
use Rattle.unification.specs.declared.walk.Walk.{Walk}
use Rattle.unification.specs.Classes.{RespectsStructure, ClassTermsAreEqual, total}
use Rattle.unification.specs.Shown.{class_of, kept_of, ClassStandsForTree}
use Rattle.unification.specs.Terms.{arguments_of}
use Rattle.unification.specs.Trees.{Tree, Trees, Open, Made, NoTrees, AndTree}

abbrev pub mark_of : Walk → ℕ → Option VisitMark
mark_of w r = slice_get w.marks.items r

-- the arguments of the kept term of a class
abbrev pub kept_arguments : List Term → Classes → ℕ → List ℕ
kept_arguments terms c r = arguments_of terms (kept_of c r)

-- the number of symbols and variables of a tree
abbrev mutual
  pub size : Tree → ℕ
  size (Open n) = 1
  size (Made s ts) = suc (sizes ts)

  pub sizes : Trees → ℕ
  sizes NoTrees = 0
  sizes (AndTree t ts) = size t + sizes ts

-- A class that is entered: the classes of its first arguments are done.
pub record IsOnPath (terms : List Term) (c : Classes) (w : Walk) (r : ℕ) : Type 0 where
  pub within : r < length terms
  pub root : class_of c r ≡ r
  pub first : ℕ
  pub few : first ≤ length (kept_arguments terms c r)
  pub mark : mark_of w r ≡ Some (Entered first)
  pub done : (j x : ℕ) → j < first → slice_get (kept_arguments terms c r) j ≡ Some x
      → mark_of w (class_of c x) ≡ Some Done

-- Classes that are done stand for trees; those that are entered stand on a path, each within the
-- one before it.
pub record IsDepthFirstWalk (terms : List Term) (c : Classes) (w : Walk) : Type 0 where
  pub marks : length w.marks.items ≡ length terms
  pub done : (r : ℕ) → mark_of w r ≡ Some Done → (t : Tree) × ClassStandsForTree terms c r t
  pub path : (a r : ℕ) → slice_get w.path.items a ≡ Some r → IsOnPath terms c w r
  pub entered : (r k : ℕ) → mark_of w r ≡ Some (Entered k)
      → (a : ℕ) × (slice_get w.path.items a ≡ Some r)
  pub distinct : (a b r : ℕ) → slice_get w.path.items a ≡ Some r
      → slice_get w.path.items b ≡ Some r → a ≡ b
  pub smaller : (v : ℕ → Tree) → RespectsStructure terms v → ClassTermsAreEqual (length terms) c v
      → (a b r q : ℕ) → a < b → slice_get w.path.items a ≡ Some r
      → slice_get w.path.items b ≡ Some q → size (v q) < size (v r)

-- how often a class is still looked at
abbrev pub visits_left_of : ℕ → Option VisitMark → ℕ
visits_left_of arguments (Some Unseen) = arguments + 2
visits_left_of arguments (Some (Entered k)) = (arguments + 1) - k
visits_left_of arguments (Some Done) = 0
visits_left_of arguments None = 0

abbrev pub remaining_visits : List Term → Classes → Walk → ℕ
remaining_visits terms c w =
    total (λ r. visits_left_of (length (kept_arguments terms c r)) (mark_of w r)) (length terms)

-- What is done stays, and what is seen.
pub record WalkExtends (w w' : Walk) : Type 0 where
  pub done : (r : ℕ) → mark_of w r ≡ Some Done → mark_of w' r ≡ Some Done
  pub unseen : (r : ℕ) → mark_of w' r ≡ Some Unseen → mark_of w r ≡ Some Unseen

-- a class that was entered last, with so many arguments done
pub record IsAtArgument (terms : List Term) (c : Classes) (w : Walk) (top first : ℕ) : Type 0 where
  pub walk : IsDepthFirstWalk terms c w
  pub front : List ℕ
  pub last : w.path.items ≡ front ++ top ∷ []
  pub mark : mark_of w top ≡ Some (Entered first)

-- the class of the next argument
pub record IsNextArgument (terms : List Term) (c : Classes) (top first next : ℕ) : Type 0 where
  pub argument : ℕ
  pub at : slice_get (kept_arguments terms c top) first ≡ Some argument
  pub class : next ≡ class_of c argument

-- a step on the way
pub record WalkSteps (terms : List Term) (c : Classes) (w w' : Walk) : Type 0 where
  pub walk : IsDepthFirstWalk terms c w'
  pub goes : WalkExtends w w'
  pub less : remaining_visits terms c w' < remaining_visits terms c w

-- no trees fit, since some class stands within itself
abbrev pub HasNoFiniteSolution : List Term → Classes → Type 0
HasNoFiniteSolution terms c =
    (v : ℕ → Tree) → RespectsStructure terms v → ClassTermsAreEqual (length terms) c v → ⊥

-- no class is seen
pub record NothingVisited (n : ℕ) (w : Walk) : Type 0 where
  pub marks : length w.marks.items ≡ n
  pub unseen : (r : ℕ) → r < n → mark_of w r ≡ Some Unseen
  pub path : w.path.items ≡ []

-- A class is entered, or is seen already and all stays.
pub data EntersClass (w w' : Walk) (r : ℕ) : Type 0 where
  enters : mark_of w r ≡ Some Unseen → w'.marks.items ≡ slice_set w.marks.items r (Entered 0)
      → w'.path.items ≡ w.path.items ++ r ∷ [] → EntersClass w w' r
  stays : (mark_of w r ≡ Some Unseen → ⊥) → w' ≡ w → EntersClass w w' r

-- A class is done, all that stands within it too, and nothing stays entered.
pub record VisitsClassWholly (terms : List Term) (c : Classes) (w w' : Walk) (r : ℕ) : Type 0 where
  pub walk : IsDepthFirstWalk terms c w'
  pub goes : WalkExtends w w'
  pub path : w'.path.items ≡ []
  pub mark : mark_of w' r ≡ Some Done
