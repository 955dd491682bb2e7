-- A name that was forced has its value from then on.
use Rattle.std.proofs.Common.{◌≡◌, ℕ, suc, ◌<◌, length, Option, Some, None, refl, arith}
use Rattle.std.specs.Prelude.{slice_get}
use Rattle.seq.proofs.Lists.{get_set, get_within}
use Rattle.core_meaning.specs.Heap.{Delayed, Binding, Known, Waiting}
use Rattle.core_meaning.specs.Evaluation.{State, Answer, Gives, NoAlternative, OutOfBound, DelayedEvaluator, and_then, update, force_binding, force}
use Rattle.match_compile.specs.Form.{Equations}
use Rattle.match_compile.specs.ByEquations.{without_bodies}
use Rattle.match_compile.specs.Stays.{answer_state, KeepsKnownValues}
use Rattle.match_compile.proofs.Kept.{Stays}

-- where a value comes, the name has it
abbrev pub Leaves : ℕ → Answer → Type 0
Leaves a (Gives v t) = slice_get t.heap a ≡ Some (Known v)
Leaves a (NoAlternative t) = Unit {0}
Leaves a (OutOfBound t) = Unit {0}

after_update : (r : Answer) (a : ℕ) (s : State) → a < length s.heap
    → KeepsKnownValues s (answer_state r) → Leaves a (and_then r (λ v t. Gives v (update t a v)))
after_update (Gives v t) a s lt k = let c = k.0 in get_set t.heap a (Known v) (omega (arith, lt, c))
after_update (NoAlternative t) a s lt k = tt
after_update (OutOfBound t) a s lt k = tt

module _ (q : Equations) (onward : DelayedEvaluator)
    (goes : (t : Delayed) (d : ℕ) → Stays (onward t d)) where
  binding_leaves : (b : Option Binding) (a d : ℕ) (s : State) → slice_get s.heap a ≡ b
      → Leaves a (force_binding (without_bodies q) onward b a d s)
  binding_leaves None a d s e = tt
  binding_leaves (Some (Known v)) a d s e = e
  binding_leaves (Some (Waiting t)) a d s e = after_update (onward t (suc d) s) a s
      (get_within s.heap a (Waiting t) e) (goes t (suc d) s)

  pub force_leaves : (a d : ℕ) (s : State) → Leaves a (force (without_bodies q) onward a d s)
  force_leaves a d s = binding_leaves (slice_get s.heap a) a d s refl
