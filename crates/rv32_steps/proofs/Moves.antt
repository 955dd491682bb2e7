-- The machine goes from one state to another.
use Rattle.std.proofs.Common.{◌≡◌, ℕ, suc, ◌+◌, List, [], ◌++◌, sym, ap, ◌∙◌, arith, append_assoc}
use Rattle.std.specs.Prelude.{drop, slice_get}
use Rattle.rv32_machine.specs.Steps.{State, Next, Written, Asked, Ended, step, given}
use Rattle.rv32_machine.specs.Runs.{Run, Exited, stands, after, onward, run}
use Rattle.rv32_machine.proofs.Composed.{run_more}
use Rattle.rv32_steps.specs.Laws.{StepsCompose, SilentStepsKeepInput}
pub use Rattle.rv32_steps.specs.Leads.{at, StepsTo, StepsToOnInput, ExitsOn}

pub run_step : (n : ℕ) (input : List ℕ) (s : State)
    → run (1 + n) input s ≡ onward (run n) input s (step s)
run_step n input s = let e : 1 + n ≡ suc n = omega arith
    in ap (λ m. run m input s) e ∙ run_more n input s

pub stays : (s : State) → StepsTo 0 s [] s
stays s = record { by = λ n input. let e : 0 + n ≡ n = omega arith in ap (λ m. run m input s) e }

after_after : (v w : List ℕ) (r : Run) → after v (after w r) ≡ after (v ++ w) r
after_after v w r = λ i. record { out = sym (append_assoc v w r.out) i; left = r.left; end = r.end }

pub goes : {j k : ℕ} {s s1 s2 : State} {v w : List ℕ} → StepsTo j s v s1 → StepsTo k s1 w s2
    → StepsTo (j + k) s (v ++ w) s2
goes {j} {k} {s} {s1} {s2} {v} {w} a b = record {
  by = λ n input.
      let e : (j + k) + n ≡ j + (k + n) = omega arith in
      ap (λ m. run m input s) e ∙ a.by (k + n) input ∙ ap (after v) (b.by n input) ∙ after_after v w
      (run n input s2);
}

pub one : (s s' : State) → step s ≡ Next s' → StepsTo 1 s [] s'
one s s' e = record { by = λ n input. run_step n input s ∙ ap (onward (run n) input s) e }

pub one_write : (s s' : State) (a m : ℕ) (bytes : List ℕ) → step s ≡ Written a m bytes s'
    → StepsTo 1 s bytes s'
one_write s s' a m bytes e = record
    { by = λ n input. run_step n input s ∙ ap (onward (run n) input s) e }

pub ends : (s : State) (code : ℕ) → step s ≡ Ended code → (n : ℕ) (input : List ℕ)
    → run (1 + n) input s ≡ stands input (Exited code s)
ends s code e n input = run_step n input s ∙ ap (onward (run n) input s) e

-- ---- on an input

pub on_input : {k : ℕ} {s t : State} {v : List ℕ} (input : List ℕ) → StepsTo k s v t
    → StepsToOnInput k input s v input t
on_input input g = record { by = λ n. g.by n input }

pub keeps_the_input : SilentStepsKeepInput
keeps_the_input k input s t v g = on_input input g

pub goes_on : {j k : ℕ} {input middle left : List ℕ} {s t u : State} {v w : List ℕ}
    → StepsToOnInput j input s v middle t → StepsToOnInput k middle t w left u
    → StepsToOnInput (j + k) input s (v ++ w) left u
goes_on {j} {k} {input} {left = left} {s = s} {u = u} {v = v} {w = w} a b = record {
  by = λ n.
      let e : (j + k) + n ≡ j + (k + n) = omega arith in
      ap (λ m. run m input s) e ∙ a.by (k + n) ∙ ap (after v) (b.by n) ∙ after_after v w
      (run n left u);
}

pub stretches_join : StepsCompose
stretches_join j k input middle left s t u v w a b = goes_on a b

pub ends_on : {j k code : ℕ} {input middle left : List ℕ} {s t u : State} {v w : List ℕ}
    → StepsToOnInput j input s v middle t → ExitsOn k middle t w left code u
    → ExitsOn (j + k) input s (v ++ w) left code u
ends_on {j} {k} {input = input} {s = s} {v = v} a b = record {
  by = λ n.
      let e : (j + k) + n ≡ j + (k + n) = omega arith in
      ap (λ m. run m input s) e ∙ a.by (k + n) ∙ ap (after v) (b.by n);
}

pub one_read : (s : State) (a : ℕ) (input : List ℕ) → step s ≡ Asked a
    → StepsToOnInput 1 input s [] (drop 1 input) (given s (slice_get input 0))
one_read s a input e = record { by = λ n. run_step n input s ∙ ap (onward (run n) input s) e }

pub one_exit : (s : State) (code : ℕ) (input : List ℕ) → step s ≡ Ended code
    → ExitsOn 1 input s [] input code s
one_exit s code input e = record { by = λ n. ends s code e n input }
