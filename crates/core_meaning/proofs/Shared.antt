-- The functions without parameters, whose cells the evaluation begins with: there is one for each.
use Rattle.std.proofs.Common.{◌≡◌, ℕ, zero, suc, ◌+◌, ◌<◌, Bool, true, false, cond, nat_eq, List, [], ◌∷◌, ◌++◌, take, length, fold, Some, slice_get, ap, ◌∙◌, refl, arith}
use Rattle.std.specs.List.{count_by}
use Rattle.std.proofs.lemmas.Bool.{eq-eqb}
use Rattle.std.proofs.lemmas.Option.{same_Some, none-some}
use Rattle.arity_check.specs.Program.{Program, Function}
use Rattle.core_meaning.specs.Heap.{Global, Waiting}
use Rattle.core_meaning.specs.Evaluation.{global, globals}
use Rattle.core_meaning.specs.WellFormed.{HasParams}

from_one : (k a : ℕ) (gs : List Function) → fold (λ a g. a + cond (nat_eq g.params 0) 1 0) (k + a)
    gs ≡ k + fold (λ a g. a + cond (nat_eq g.params 0) 1 0) a gs
from_one k a [] = refl
from_one k a (g ∷ gs) =
    let e : k + a + cond (nat_eq g.params 0) 1 0 ≡ k + (a + cond (nat_eq g.params 0) 1 0)
    = omega arith in
    rw e (from_one k (a + cond (nat_eq g.params 0) 1 0) gs)

pub count_more : (g : Function) (gs : List Function)
    → count_by (λ g. nat_eq g.params 0) (g ∷ gs) ≡ cond (nat_eq g.params 0) 1 0 + count_by
    (λ g. nat_eq g.params 0) gs
count_more g gs =
    let e : 0 + cond (nat_eq g.params 0) 1 0 ≡ cond (nat_eq g.params 0) 1 0 + 0 = omega arith in
    rw e (from_one (cond (nat_eq g.params 0) 1 0) 0 gs)

module _ (p : Program) where
  global_from : (gs : List Function) (k f : ℕ) (fun : Function) → slice_get gs f ≡ Some fun
      → fun.params ≡ 0 → count_by (λ g. nat_eq g.params 0) (take f gs) < length (globals p gs k)
  global_from [] k f fun e z = absurd (none-some fun e)
  global_from (g ∷ gs) k zero fun e z =
      let same : g ≡ fun = same_Some g fun e in
      rw (eq-eqb g.params 0 (ap (λ g. g.params) same ∙ z)) (omega arith)
  global_from (g ∷ gs) k (suc f) fun e z =
      let more = count_more g (take f gs) in
      let less = global_from gs (suc k) f fun e z in
      rw more (by_test (nat_eq g.params 0) less)
    where
      by_test : (b : Bool) → count_by (λ g. nat_eq g.params 0) (take f gs) < length
          (globals p gs (suc k)) → cond b 1 0 + count_by (λ g. nat_eq g.params 0) (take f gs) <
          length (cond b (Waiting (Global k) ∷ []) [] ++ globals p gs (suc k))
      by_test true lt = omega (arith, lt)
      by_test false lt = omega (arith, lt)

  pub global_below : (f : ℕ) → HasParams p f (λ n. n ≡ 0) → global p f < length (globals p p.funs 0)
  global_below f h = global_from p.funs 0 f h.0 h.1 h.2
