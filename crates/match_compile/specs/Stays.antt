-- What evaluation leaves as it was.
use Rattle.std.specs.Prelude.{◌≡◌, ℕ, ◌≤◌, length, Some, slice_get}
use Rattle.core_meaning.specs.Heap.{Value, Delayed, Known}
use Rattle.core_meaning.specs.Evaluation.{State, Answer, Gives, NoAlternative, OutOfBound}
use Rattle.match_compile.specs.Form.{Equations}
use Rattle.match_compile.specs.ByEquations.{within}

abbrev pub answer_state : Answer → State
answer_state (Gives v s) = s
answer_state (NoAlternative s) = s
answer_state (OutOfBound s) = s

-- each name of the first state is one of the second, and a value that it has there it has here
abbrev pub KeepsKnownValues : State → State → Type 0
KeepsKnownValues s t =
    (length s.heap ≤ length t.heap)
    × ((a : ℕ) (v : Value) → slice_get s.heap a ≡ Some (Known v)
    → slice_get t.heap a ≡ Some (Known v))

-- The evaluation of equations takes no name from the heap and leaves each value as it was.
abbrev pub EvaluationKeepsValues : Type 0
EvaluationKeepsValues =
    (q : Equations) (n : ℕ) (t : Delayed) (d : ℕ) (s : State)
    → KeepsKnownValues s (answer_state (within q n t d s))
