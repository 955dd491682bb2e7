-- Comparisons whose result does no more than decide the choice right behind them: they are one
-- branch on the two words, and the result is nowhere.
use Rattle.std.specs.Prelude.{ℕ, Bool, true, false, not, nat_eq, nat_lt, if◌then◌else◌, List, [], ◌∷◌, ◌++◌}
use Rattle.low_code.specs.declared.program.PrimOp.{PrimOp}
use Rattle.low_code.specs.declared.program.PrimOp.TheVariants.{Add, Sub, Mul, Quot, Rem, Eq, Lt}
use Rattle.low_code.specs.declared.program.Operand.{Operand}
use Rattle.low_code.specs.declared.program.Operand.TheVariants.{Var, Num, Cell}
use Rattle.low_code.specs.declared.program.LowTest.{LowTest}
use Rattle.low_code.specs.Tree.{Code, prim, choose, Arms, otherwise, arm}
use Rattle.low_code.specs.Formed.{uses, arms_uses}
use Rattle.rv32_items.specs.declared.Cond.{Cond}
use Rattle.rv32_items.specs.declared.Cond.TheVariants as cond
use Rattle.seq.specs.Lists.{is_among}

-- the operations that give 1 or 0
abbrev pub compares : PrimOp → Bool
compares Add = false
compares Sub = false
compares Mul = false
compares Quot = false
compares Rem = false
compares Eq = true
compares Lt = true

abbrev pub is_var : (x : ℕ) → Operand → Bool
is_var x (Var y) = nat_eq x y
is_var x (Num k) = false
is_var x (Cell i) = false

-- one test, of this variable, for 0 or 1
abbrev pub tests_result : (x : ℕ) → List LowTest → Bool
tests_result x [] = false
tests_result x (t ∷ []) = if is_var x t.left then nat_lt t.right 2 else false
tests_result x (t ∷ (u ∷ ts)) = false

-- the first arm of a choice tests the variable alone, and nothing else there uses it
abbrev pub decides_arms : (x : ℕ) → Arms → Bool
decides_arms x (otherwise c) = false
decides_arms x (arm ts c as') =
    if tests_result x ts then not (is_among x (uses c ++ arms_uses as')) else false

abbrev pub decides_code : (x : ℕ) → Code → Bool
decides_code x (choose as') = decides_arms x as'
decides_code x _ = false

-- whether the result x of an operation does no more than decide the choice right behind it
abbrev pub decides : PrimOp → (x : ℕ) → Code → Bool
decides f x c = if compares f then decides_code x c else false

-- whether a block begins with such an operation
abbrev pub decided : Code → Bool
decided (prim f x b d c) = decides f x c
decided _ = false

-- the number for which the first test is
abbrev pub tested : List LowTest → ℕ
tested [] = 0
tested (t ∷ ts) = t.right

-- how the words of a comparison compare where it gives 1, and where it gives 0
abbrev pub condition_one : PrimOp → Cond
condition_one Add = cond.Eq
condition_one Sub = cond.Eq
condition_one Mul = cond.Eq
condition_one Quot = cond.Eq
condition_one Rem = cond.Eq
condition_one Eq = cond.Eq
condition_one Lt = cond.Lt

abbrev pub condition_zero : PrimOp → Cond
condition_zero Add = cond.Ne
condition_zero Sub = cond.Ne
condition_zero Mul = cond.Ne
condition_zero Quot = cond.Ne
condition_zero Rem = cond.Ne
condition_zero Eq = cond.Ne
condition_zero Lt = cond.Ge

-- the condition on which it gives this number, and that on which it gives the other one
abbrev pub condition : PrimOp → (number : ℕ) → Cond
condition f n = if nat_eq n 1 then condition_one f else condition_zero f

abbrev pub other_condition : PrimOp → (number : ℕ) → Cond
other_condition f n = if nat_eq n 1 then condition_zero f else condition_one f
