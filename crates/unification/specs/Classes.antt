-- Classes of terms that are equal wherever the equations hold, and pairs that are still to be
-- joined.
use Rattle.std.specs.Prelude.{◌≡◌, ◌<◌, ◌≤◌, ◌+◌, ℕ, zero, suc, ◌==◌, if◌then◌else◌, List, [], ◌∷◌, length, Some, None, slice_get}
use Rattle.unification.specs.declared.classes.Classes.{Classes}
use Rattle.unification.specs.declared.term.Symbol.{Symbol}
use Rattle.unification.specs.declared.term.Term.{Term}
use Rattle.unification.specs.Shown.{class_of, kept_of}
use Rattle.unification.specs.Terms.{symbol_of, arguments_of, PairsAreBelow}
use Rattle.unification.specs.Trees.{Tree, Made, trees}
use Rattle.seq.specs.Lists.{In, or_empty}

-- the other terms of a class
abbrev pub members_of : Classes → ℕ → List ℕ
members_of c r = or_empty (slice_get c.members.items r)

-- A class goes by one of its terms, and has a list of the others and a term that it keeps.
pub record IsPartition (n : ℕ) (c : Classes) : Type 0 where
  pub classes : length c.class.items ≡ n
  pub keeps : length c.kept.items ≡ n
  pub groups : length c.members.items ≡ n
  pub within : (i : ℕ) → i < n → class_of c i < n
  pub flat : (i : ℕ) → i < n → class_of c (class_of c i) ≡ class_of c i
  pub listed : (i : ℕ) → i < n → (class_of c i ≡ i → ⊥) → In i (members_of c (class_of c i))
  pub members : (r i : ℕ) → r < n → In i (members_of c r) → (i < n) × (class_of c i ≡ r)
  pub kept : (r : ℕ) → r < n → class_of c r ≡ r
      → (kept_of c r < n) × (class_of c (kept_of c r) ≡ r)

-- each of so many terms in a class of its own
pub record AreSingletons (n : ℕ) (c : Classes) : Type 0 where
  pub classes : length c.class.items ≡ n
  pub keeps : length c.kept.items ≡ n
  pub groups : length c.members.items ≡ n
  pub alone : (i : ℕ) → i < n → class_of c i ≡ i
  pub kept : (i : ℕ) → i < n → kept_of c i ≡ i
  pub none : (i : ℕ) → i < n → members_of c i ≡ []

-- the first of two terms that is no variable
abbrev pub preferred : List Term → ℕ → ℕ → ℕ
preferred terms x y = elim (symbol_of terms x) [ Some s ↦ x | None ↦ y ]

-- the class of what was in a class, where class a goes into class b
abbrev pub moved : ℕ → ℕ → ℕ → ℕ
moved a b r = if r == a then b else r

-- Class a goes into class b, and all else stays.
pub record ClassesAreMerged (terms : List Term) (c c' : Classes) (a b : ℕ) : Type 0 where
  pub partition : IsPartition (length terms) c'
  pub classes : (i : ℕ) → i < length terms → class_of c' i ≡ moved a b (class_of c i)
  pub kept : kept_of c' b ≡ preferred terms (kept_of c b) (kept_of c a)
  pub others : (r : ℕ) → (r ≡ b → ⊥) → kept_of c' r ≡ kept_of c r

-- what terms are, so that they are made of their arguments
abbrev pub RespectsStructure : List Term → (ℕ → Tree) → Type 0
RespectsStructure terms v =
    (i : ℕ) (s : Symbol) → symbol_of terms i ≡ Some s
    → v i ≡ Made s (trees v (arguments_of terms i))

-- the terms of each pair are equal
abbrev pub PairsAreEqual : (ℕ → Tree) → List (ℕ × ℕ) → Type 0
PairsAreEqual v [] = Unit {0}
PairsAreEqual v (p ∷ ps) = (v p.0 ≡ v p.1) × PairsAreEqual v ps

-- the terms of each class are equal
abbrev pub ClassTermsAreEqual : ℕ → Classes → (ℕ → Tree) → Type 0
ClassTermsAreEqual n c v = (i : ℕ) → i < n → v (class_of c i) ≡ v i

-- the terms of each class are equal, and those of each pair
pub record SolvesClassesAndPairs (n : ℕ) (c : Classes) (todo : List (ℕ × ℕ)) (v : ℕ → Tree)
    : Type 0 where
  pub joined : ClassTermsAreEqual n c v
  pub equal : PairsAreEqual v todo

-- A term is as the kept term of its class, once all pairs are joined.
pub record EqualsKeptTerm (terms : List Term) (c : Classes) (todo : List (ℕ × ℕ))
    (s : Symbol) (i k : ℕ) : Type 0 where
  pub symbol : symbol_of terms k ≡ Some s
  pub same : (v : ℕ → Tree) → SolvesClassesAndPairs (length terms) c todo v
      → trees v (arguments_of terms i) ≡ trees v (arguments_of terms k)

-- classes and pairs while terms are joined
pub record IsMergingState (terms : List Term) (c : Classes) (todo : List (ℕ × ℕ)) : Type 0 where
  pub partition : IsPartition (length terms) c
  pub below : PairsAreBelow (length terms) todo
  pub linked : (i : ℕ) (s : Symbol) → i < length terms → symbol_of terms i ≡ Some s
      → EqualsKeptTerm terms c todo s i (kept_of c (class_of c i))

-- items of two lists in pairs
abbrev pub paired : List ℕ → List ℕ → List (ℕ × ℕ)
paired [] ys = []
paired (x ∷ xs) [] = []
paired (x ∷ xs) (y ∷ ys) = (x, y) ∷ paired xs ys

-- The arguments of two terms are put in pairs, so that the terms are equal where the pairs are.
pub record ArgumentsArePaired (terms : List Term) (old new : List (ℕ × ℕ)) (x y : ℕ) : Type 0 where
  pub below : PairsAreBelow (length terms) old → PairsAreBelow (length terms) new
  pub before : (v : ℕ → Tree) → PairsAreEqual v new → PairsAreEqual v old
  pub after : (v : ℕ → Tree) → RespectsStructure terms v → v x ≡ v y
      → PairsAreEqual v old → PairsAreEqual v new
  pub same : (s t : Symbol) → symbol_of terms x ≡ Some s → symbol_of terms y ≡ Some t
      → (s ≡ t) × ((v : ℕ → Tree) → PairsAreEqual v new
      → trees v (arguments_of terms x) ≡ trees v (arguments_of terms y))
  pub few : (s : Symbol) → symbol_of terms y ≡ Some s
      → length new ≤ length old + length (arguments_of terms x)
  pub none : symbol_of terms y ≡ None → new ≡ old

-- no trees for these terms are equal
abbrev pub CannotBeEqual : List Term → ℕ → ℕ → Type 0
CannotBeEqual terms x y = (v : ℕ → Tree) → RespectsStructure terms v → v x ≡ v y → ⊥

-- a sum over the numbers below one
abbrev pub total : (ℕ → ℕ) → ℕ → ℕ
total f zero = 0
total f (suc n) = total f n + f n

-- the arguments of the kept term of a class, counted where it is a class
abbrev pub arguments_kept : List Term → Classes → ℕ → ℕ
arguments_kept terms c r =
    if class_of c r == r then length (arguments_of terms (kept_of c r)) else 0

-- how many pairs there are at most from here on
abbrev pub work : List Term → Classes → List (ℕ × ℕ) → ℕ
work terms c todo = total (arguments_kept terms c) (length terms) + length todo

-- The pairs are joined in part: the same trees fit, and less is to be done.
pub record MergingProgresses (terms : List Term) (c : Classes) (todo : List (ℕ × ℕ))
    (c' : Classes) (todo' : List (ℕ × ℕ)) : Type 0 where
  pub under_way : IsMergingState terms c' todo'
  pub before : (v : ℕ → Tree) → SolvesClassesAndPairs (length terms) c' todo' v
      → SolvesClassesAndPairs (length terms) c todo v
  pub after : (v : ℕ → Tree) → RespectsStructure terms v
      → SolvesClassesAndPairs (length terms) c todo v
      → SolvesClassesAndPairs (length terms) c' todo' v

-- no trees fit
abbrev pub IsUnsatisfiable : List Term → Classes → List (ℕ × ℕ) → Type 0
IsUnsatisfiable terms c todo =
    (v : ℕ → Tree) → RespectsStructure terms v → SolvesClassesAndPairs (length terms) c todo v → ⊥
