-- The trees of the functions of a text.
use Rattle.std.specs.Prelude.{◌≡◌, ℕ, suc, ◌+◌, List, [], ◌∷◌, ◌++◌, map, length, Some, None}
use Rattle.match_compile.specs.Source.{Equation, Source}
use Rattle.match_compile.specs.Parts.{count}
use Rattle.match_compile.specs.Sizes.{functions, rows}
use Rattle.match_compile.specs.Trees.{Row, settled, pending_patterns_at, places_from, Tree, IsTree, alone_from, max_chained_cases, insert}

-- a tree for equations that follow one another: the name, the place, the number in the text and the
-- number of patterns of the first one, the tree, and the first place that is free
pub record Decision : Type 0 where
  pub name : ℕ
  pub at : ℕ
  pub number : ℕ
  pub params : ℕ
  pub tree : Tree
  pub free : ℕ

-- the parameters have the places from 0 on
abbrev pub row_of : Equation → Row
row_of e = settled e.body [] (pending_patterns_at (places_from 0 e.pats) e.pats)

abbrev pub decision_of_row : ℕ → Equation → Tree × ℕ → Decision
decision_of_row k e t = record {
  name = e.name;
  at = e.at;
  number = k;
  params = count e.pats;
  tree = t.0;
  free = t.1;
}

-- the tree of equation k alone
abbrev pub begun : ℕ → Equation → Decision
begun k e = decision_of_row k e (alone_from (count e.pats) (row_of e))

abbrev pub grown : Decision → Tree × ℕ → Decision
grown d t = record d { tree = t.0; free = t.1 }

-- the equations from number k on go into a tree, in their order. One that is not taken begins
-- another tree
abbrev pub decided : Decision → ℕ → List Equation → List Decision
decided d k [] = d ∷ []
decided d k (e ∷ es) = elim (insert max_chained_cases d.tree d.free (row_of e)) [
  | Some t ↦ decided (grown d t) (suc k) es
  | None ↦ d ∷ decided (begun k e) (suc k) es
]

abbrev pub decisions_from : ℕ → List Equation → List Decision
decisions_from k [] = []
decisions_from k (e ∷ es) = decided (begun k e) (suc k) es

-- the trees of each function, the first equation having this number
abbrev pub all_decisions : ℕ → List (List Equation) → List (List Decision)
all_decisions k [] = []
all_decisions k (f ∷ fs) = decisions_from k (rows f) ∷ all_decisions (k + length f) fs

abbrev pub decisions : Source → List (List Decision)
decisions c = all_decisions 0 (functions c.equations)

-- ---- what the trees stand for

-- the name and the number of patterns are those of the first equation
abbrev pub HasHeadOfFirst : List Equation → Decision → Type 0
HasHeadOfFirst [] d = ⊥
HasHeadOfFirst (e ∷ es) d = (d.name ≡ e.name) × (d.params ≡ count e.pats)

-- the tree is one for these equations, of which the first has this number
pub record DecidesEquations (k : ℕ) (es : List Equation) (d : Decision) : Type 0 where
  pub number : d.number ≡ k
  pub first : HasHeadOfFirst es d
  pub tree : IsTree (map row_of es) d.tree

-- each tree is one for some of the equations, and they keep their order
pub data DecideAllEquations : ℕ → List Equation → List Decision → Type 0 where
  NoneLeft : {k : ℕ} → DecideAllEquations k [] []
  More : {k : ℕ} {es rest : List Equation} {d : Decision} {ds : List Decision}
      → DecidesEquations k es d
      → DecideAllEquations (k + length es) rest ds → DecideAllEquations k (es ++ rest) (d ∷ ds)
