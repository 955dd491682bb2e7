-- Runs compose, their ends stay, their output grows, and their input is used in order.
use Rattle.std.proofs.Common.{◌≡◌, ℕ, zero, suc, ◌+◌, List, [], ◌∷◌, ◌++◌, length, drop, append_assoc, length-append, None, true, refl, sym, ap, ◌∙◌, arith}
use Rattle.std.proofs.lemmas.Grind.{common_steps}
use Rattle.std.specs.Prelude.{slice_get}
use Rattle.rv32_machine.specs.Steps.{State, Outcome, Next, Written, Asked, Ended, Trapped, step, given}
use Rattle.rv32_machine.specs.Runs.{MachineEnd, Going, Exited, Stopped, Run, stands, after, onward, run, continued, has_ended, RunsCompose, EndedRunIsStable, OutputGrows, InputIsUsedInOrder}

pub run_none : (input : List ℕ) (s : State) → run 0 input s ≡ stands input (Going s)
unfolding run
run_none input s = refl

pub run_more : (n : ℕ) (input : List ℕ) (s : State)
    → run (suc n) input s ≡ onward (run n) input s (step s)
unfolding run
run_more n input s = refl

-- bytes before a run and before its continuation
after_continued : (bytes : List ℕ) (n : ℕ) (out left : List ℕ) (e : MachineEnd)
    → after bytes (continued n (record { out = out; left = left; end = e })) ≡ continued n
    (record { out = bytes ++ out; left = left; end = e })
after_continued bytes n out left (Going s) = λ i. record {
  out = sym (append_assoc bytes out (run n left s).out) i;
  left = (run n left s).left;
  end
      = (run n left s).end;
}
after_continued bytes n out left (Exited code s) = refl
after_continued bytes n out left (Stopped kind s) = refl

-- the same for one step, whatever it does, where it holds behind the step
step_composes : (m n : ℕ) →
    ((input : List ℕ) (s : State) → run (m + n) input s ≡ continued n (run m input s))
    → (input : List ℕ) (s : State) (o : Outcome) → onward (run (m + n)) input s o ≡ continued n
    (onward (run m) input s o)
step_composes m n later input s (Next t) = later input t
step_composes m n later input s (Written address len bytes t) =
    ap (after bytes) (later input t) ∙ after_continued bytes n (run m input t).out
    (run m input t).left (run m input t).end
step_composes m n later input s (Asked address) = later (drop 1 input) (given s (slice_get input 0))
step_composes m n later input s (Ended code) = refl
step_composes m n later input s (Trapped kind) = refl

pub runs_compose : RunsCompose
runs_compose zero n input s =
    let none : 0 + n ≡ n = omega arith in
    ap (λ k. run k input s) none ∙ ap (continued n) (sym (run_none input s))
runs_compose (suc m) n input s =
    let count : suc m + n ≡ suc (m + n) = omega arith in
    ap (λ k. run k input s) count
    ∙ run_more (m + n) input s
    ∙ step_composes m n (λ i t. runs_compose m n i t) input s (step s)
    ∙ ap (continued n) (sym (run_more m input s))

-- a run that has ended is not continued
ended : (n : ℕ) (out left : List ℕ) (e : MachineEnd) → has_ended e ≡ true → let r : Run
    = record { out = out; left = left; end = e } in continued n r ≡ r
ended n out left (Going s) h = cc
ended n out left (Exited code s) h = refl
ended n out left (Stopped kind s) h = refl

pub end_stays : EndedRunIsStable
end_stays m n input s h =
    let r = run m input s in
    runs_compose m n input s ∙ ended n r.out r.left r.end h

pub end_append : (xs : List ℕ) → xs ≡ xs ++ []
end_append xs = grind (arith, common_steps)

grows : (n : ℕ) (out left : List ℕ) (e : MachineEnd) → (more : List ℕ)
    × ((continued n (record { out = out; left = left; end = e })).out ≡ out ++ more)
grows n out left (Going s) = ((run n left s).out, refl)
grows n out left (Exited code s) = ([], end_append out)
grows n out left (Stopped kind s) = ([], end_append out)

pub output_grows : OutputGrows
output_grows m n input s =
    let r = run m input s in
    let g = grows n r.out r.left r.end in
    (g.0, ap (λ q. q.out) (runs_compose m n input s) ∙ g.1)

-- ---- the input

-- what a run leaves is a rest of what it was given
left_is_rest : (n : ℕ) (input : List ℕ) (s : State) → (gone : List ℕ)
    × (input ≡ gone ++ (run n input s).left)
left_is_rest zero input s = ([], ap (λ r. r.left) (sym (run_none input s)))
left_is_rest (suc n) input s =
    let h = by_step n (λ i t. left_is_rest n i t) input s (step s) in
    (h.0, h.1 ∙ ap (λ r. h.0 ++ r.left) (sym (run_more n input s)))
  where
    by_step : (n : ℕ) →
        ((i : List ℕ) (t : State) → (gone : List ℕ) × (i ≡ gone ++ (run n i t).left))
        → (i : List ℕ) (s : State) (o : Outcome) → (gone : List ℕ)
        × (i ≡ gone ++ (onward (run n) i s o).left)
    by_step n later i s (Next t) = later i t
    by_step n later i s (Written address len bytes t) = later i t
    by_step n later [] s (Asked address) = later [] (given s None)
    by_step n later (b ∷ i) s (Asked address) =
        let h = later i (given s (slice_get (b ∷ i) 0)) in (b ∷ h.0, ap (λ l. b ∷ l) h.1)
    by_step n later i s (Ended code) = ([], refl)
    by_step n later i s (Trapped kind) = ([], refl)

shrinks : (n : ℕ) (out left : List ℕ) (e : MachineEnd) → (gone : List ℕ)
    × (left ≡ gone ++ (continued n (record { out = out; left = left; end = e })).left)
shrinks n out left (Going s) = left_is_rest n left s
shrinks n out left (Exited code s) = ([], refl)
shrinks n out left (Stopped kind s) = ([], refl)

pub input_is_used_in_order : InputIsUsedInOrder
input_is_used_in_order m n input s =
    let r = run m input s in
    let q = run (m + n) input s in
    let h = shrinks n r.out r.left r.end in
    let rest : r.left ≡ h.0 ++ q.left = h.1 ∙ ap (λ x. h.0 ++ x.left)
    (sym (runs_compose m n input s)) in
    let first = left_is_rest m input s in
    let a : length input ≡ length first.0 + length r.left
    = ap length first.1 ∙ length-append first.0 r.left in
    let b : length r.left ≡ length h.0 + length q.left = ap length rest ∙ length-append h.0 q.left
    in
    (h.0, rest, omega arith)
