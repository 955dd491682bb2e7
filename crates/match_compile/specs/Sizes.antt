-- How large equations are, and which functions are simple.
use Rattle.std.specs.Prelude.{ℕ, suc, ◌+◌, ◌*◌, ◌==◌, max, Bool, true, false, not, ◌&&◌, cond, List, [], ◌∷◌, length, sum_by, if◌then◌else◌}
use Rattle.core_reader.specs.Size.{expr_size}
use Rattle.match_compile.specs.Parts.{tests_of}
use Rattle.match_compile.specs.Heads.{Head, Integer, Constructor, same_head, same_kind}
use Rattle.match_compile.specs.Source.{Pat, Name, Int, Con, Pats, NoPats, AndPat, Equation, Source}

-- ---- the size: the number of name, constructor and integer tokens

abbrev mutual
  pub pat_size : Pat → ℕ
  pat_size (Name b) = 1
  pat_size (Int k at) = 1
  pat_size (Con c ps) = 1 + pats_size ps

  pub pats_size : Pats → ℕ
  pats_size NoPats = 0
  pats_size (AndPat p ps) = pat_size p + pats_size ps

abbrev pub equation_size : Equation → ℕ
equation_size e = 1 + pats_size e.pats + expr_size e.body

abbrev pub source_size : Source → ℕ
source_size c = 2 * length c.constructors + sum_by equation_size c.equations

-- the number of integer and constructor patterns
abbrev pub tests : Source → ℕ
tests c = sum_by (λ e. tests_of e.pats) c.equations

-- ---- functions: equations of one name, one after the other

abbrev pub joined : Equation → List (List Equation) → List (List Equation)
joined e [] = (e ∷ []) ∷ []
joined e ([] ∷ rest) = (e ∷ []) ∷ rest
joined e ((f ∷ fs) ∷ rest) =
    if e.name == f.name then (e ∷ f ∷ fs) ∷ rest else (e ∷ []) ∷ (f ∷ fs) ∷ rest

abbrev pub functions : List Equation → List (List Equation)
functions [] = []
functions (e ∷ es) = joined e (functions es)

abbrev pub longest_length : List (List Equation) → ℕ
longest_length [] = 0
longest_length (es ∷ rest) = max (length es) (longest_length rest)

-- the largest number of equations of one function
abbrev pub most_equations : Source → ℕ
most_equations c = longest_length (functions c.equations)

-- the equations up to the first one of names alone, behind which none is tried
abbrev pub rows : List Equation → List Equation
rows [] = []
rows (e ∷ es) = e ∷ (if tests_of e.pats == 0 then [] else rows es)

-- ---- simple functions

-- the number of a column, and what its test accepts
pub data Test : Type 0 where
  NoTest : Test
  OneTest : (column : ℕ) (head : Head) → Test
  OtherTest : Test

-- the one pattern of an equation that isn't a name, if it has names alone as fields
abbrev pub with_test : Test → (column : ℕ) → Pat → Test
with_test found column (Name b) = found
with_test NoTest column (Int k at) = OneTest column (Integer k)
with_test NoTest column (Con c ps) =
    cond (tests_of ps == 0) (OneTest column (Constructor c.name.0)) OtherTest
with_test found column p = OtherTest

abbrev pub test_from : Test → (column : ℕ) → Pats → Test
test_from found column NoPats = found
test_from found column (AndPat p ps) = test_from (with_test found column p) (suc column) ps

-- another test in the same column, of the same kind, and of another head
abbrev pub beside : Test → Test → Bool
beside (OneTest n h) (OneTest m g) = (n == m) && (same_kind h g && not (same_head h g))
beside _ _ = false

abbrev pub is_single_test : Test → Bool
is_single_test (OneTest n h) = true
is_single_test _ = false

abbrev pub test_of : Equation → Test
test_of e = test_from NoTest 0 e.pats

abbrev pub all_beside : Test → List Equation → Bool
all_beside t [] = true
all_beside t (e ∷ es) = beside t (test_of e) && all_beside t es

-- each equation has one test, all in one column, of one kind, and none stands twice
abbrev pub is_simple : List Equation → Bool
is_simple [] = true
is_simple (e ∷ es) = is_single_test (test_of e) && (all_beside (test_of e) es && is_simple es)

-- one equation of names alone
abbrev pub is_plain : List Equation → Bool
is_plain (e ∷ []) = tests_of e.pats == 0
is_plain _ = false
