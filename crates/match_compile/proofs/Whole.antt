-- A program whose functions serve equations puts out what the equations do.
use Rattle.std.proofs.Common.{◌≡◌, ℕ, zero, suc, ◌+◌, ◌*◌, ◌<◌, Bool, true, false, cond, List, [], ◌∷◌, map, Some, refl, sym, ap, ◌∙◌, subst, arith}
use Rattle.std.specs.Prelude.{◌==◌, slice_get}
use Rattle.seq.specs.Lists.{AllOf}
use Rattle.seq.proofs.Lists.{all_append, map_get}
use Rattle.seq.proofs.Order.{eq_from}
use Rattle.arity_check.specs.Program.{Program}
use Rattle.headline.specs.Carries.{MeaningResult}
use Rattle.core_meaning.specs.Heap.{Waiting, Global}
use Rattle.core_meaning.specs.Forcing as forcing
use Rattle.core_meaning.specs.Forcing.{PrintedRun, Going}
use Rattle.core_meaning.specs.ByNeed as by_need
use Rattle.core_meaning.specs.Evaluation as core
use Rattle.core_meaning.specs.Evaluation.{NoAlternative, params, global, globals}
use Rattle.core_meaning.specs.Printing.{printed}
use Rattle.core_meaning.specs.Told.{meaning_end}
use Rattle.match_compile.specs.Form.{Rows, Equations}
use Rattle.match_compile.specs.ByEquations as equations
use Rattle.match_compile.specs.ByEquations.{as_function, without_bodies, enter, equations_meaning}
use Rattle.match_compile.specs.Within.{ResultExtends}
use Rattle.match_compile.specs.Decides.{fields, IsFun, AreServed}
use Rattle.match_compile.specs.Laws.{ServedWithin, ServedInStep}
use Rattle.match_compile.proofs.Beside as both
use Rattle.match_compile.proofs.Beside.{Pace, Ahead, Behind, Together, Fits}
use Rattle.match_compile.proofs.Served.{Allows, same_nil, same_cons, entered}
use Rattle.match_compile.proofs.PutOut.{Reaches, Puts, printed_puts}

abbrev told : PrintedRun → MeaningResult
told r = record
    { out = r.out; end = meaning_end r.end; cells = r.cells; depth = r.depth; used = r.used }

goes_on : (a b : PrintedRun) → Reaches a b → ResultExtends (told a) (told b)
goes_on a b r = record {
  out = r.out;
  ended = λ h. let e = r.ended (λ i. h (ap meaning_end i)) in (e.0, ap meaning_end e.1);
}

module _ (q : Equations) (most : ℕ) (p : Program) (is_served : AreServed q most p) where
  -- the functions without parameters
  globals_ok : (fs : List Rows) (k : ℕ) →
      ((i : ℕ) (r : Rows) → slice_get fs i ≡ Some r → slice_get q.funs (i + k) ≡ Some r)
      → AllOf (both.BindingOk (params (without_bodies q)) (params p) (fields q) (IsFun q)
      is_served.counts) (globals (without_bodies q) (map as_function fs) k)
  globals_ok [] k h = tt
  globals_ok (f ∷ fs) k h =
      all_append
      (both.BindingOk (params (without_bodies q)) (params p) (fields q) (IsFun q)
      is_served.counts) (cond (f.params == 0) (Waiting (Global k) ∷ []) [])
      (globals (without_bodies q) (map as_function fs) (suc k)) (by (f.params == 0) refl)
      (globals_ok fs (suc k)
      (λ i r e. let z : i + suc k ≡ suc i + k = omega arith
      in ap (slice_get q.funs) z ∙ h (suc i) r e))
    where
      here : slice_get q.funs k ≡ Some f
      here = let z : k ≡ 0 + k = omega arith in ap (slice_get q.funs) z ∙ h 0 f refl

      by : (b : Bool) → (f.params == 0) ≡ b → AllOf
          (both.BindingOk (params (without_bodies q)) (params p) (fields q) (IsFun q)
          is_served.counts) (cond b (Waiting (Global k) ∷ []) [])
      by true e = (
        both.OkWaiting
            (both.OkGlobal (record { rows = f; is = here })
            (ap (core.params_of (without_bodies q)) (map_get as_function q.funs k f here) ∙ eq_from
            f.params 0 e)),
        tt,
      )
      by false e = tt

  puts : (pace : Pace) → ((more : ℕ) → more < most → Allows pace more) → (i : List ℕ) (n m : ℕ)
      → Fits pace 0 n m → Puts pace (equations.printed q i n) (printed p i m)
  puts pace allows i n m f =
      subst (λ w. Puts pace (equations.printed q i n)
      (forcing.printed (params p) NoAlternative (core.nil p) (core.cons p)
      (by_need.enter 0 NoAlternative p) (globals p p.funs 0) w (global p w) i m))
      (sym is_served.main)
      (printed_puts (params (without_bodies q)) (params p) (fields q) (IsFun q) is_served.counts
      pace (core.nil (without_bodies q)) (core.cons (without_bodies q)) (core.nil p)
      (core.cons p)
      (same_nil q p is_served.counts is_served.names pace most is_served allows)
      (same_cons q p is_served.counts is_served.names pace most is_served allows)
      is_served.no_fields is_served.two_fields
      (enter q) (by_need.enter 0 NoAlternative p)
      (entered q p is_served.counts is_served.names pace most is_served allows)
      (globals (without_bodies q) (without_bodies q).funs 0) (globals p p.funs 0) is_served.heap
      (globals_ok q.funs 0
      (λ i r e. let z : i + 0 ≡ i = omega arith in ap (slice_get q.funs) z ∙ e))
      q.main is_served.begins is_served.few (global (without_bodies q) q.main) (global p q.main)
      (is_served.names q.main is_served.begins) i n m f)

pub served_within : ServedWithin
served_within q zero p is_served = let lt = (is_served.served q.main is_served.begins).below
    in absurd (omega (arith, lt))
served_within q (suc k) p is_served = record {
  behind = λ i n. goes_on (printed p i n) (equations.printed q i n)
      (puts q (suc k) p is_served Behind (λ more lt. tt) i n n (omega arith));
  ahead = λ i n. goes_on (equations.printed q i n) (printed p i (suc k * n))
      (puts q (suc k) p is_served (Ahead k) (λ more lt. omega (arith, lt)) i n (suc k * n)
      (omega arith));
}

pub served_in_step : ServedInStep
served_in_step q p is_served = record {
  out = λ i n. (puts q 1 p is_served Together (λ more lt. omega (arith, lt)) i n n refl).0;
  end = λ i n. ap meaning_end
      (puts q 1 p is_served Together (λ more lt. omega (arith, lt)) i n n refl).1;
}
