-- Moments of the machine and of a course that show the same, and how an item's steps lead from one
-- to the next.
use Rattle.std.proofs.Common.{◌≡◌, ℕ, zero, suc, ◌+◌, ◌-◌, ◌<◌, ◌≤◌, false, List, [], ◌∷◌, ◌++◌, length, drop, slice_get, refl, ap, ◌∙◌, arith}
use Rattle.rv32_machine.specs.Steps.{State, Outcome, Next as Next', Written as Written', Asked as Asked', Ended as Ended', Trapped as Trapped', step, given}
use Rattle.rv32_machine.specs.Runs.{Run, Going as Going', stands as stands', onward as onward', run}
use Rattle.rv32_machine.proofs.Composed.{run_none, run_more}
use Rattle.rv32_steps.specs.Seen.{observed_machine, finish_of as finish_of'}
use Rattle.rv32_steps.specs.Trace.{trace, trace_after, procedures_at, procedure_from, is_one_of}
use Rattle.rv32_items.specs.declared.Item.{Item}
use Rattle.rv32_items.specs.Course.{Layout, Point, Course, Going, stands, after, onward, course, turn, state_at, label_of}
use Rattle.rv32_items.specs.Placed.{StepsAtRisingPcs}
use Rattle.rv32_items.specs.Told.{observed_items, finish_of}
use Rattle.rv32_items.proofs.Addresses.{not_one}

-- a run and a course have written the same, left the same of the input, and stand alike
pub record Same (r : Run) (c : Course) : Type 0 where
  pub out : r.out ≡ c.out
  pub left : r.left ≡ c.left
  pub finish : finish_of' r.end ≡ finish_of c.end

pub same_seen : (lay : Layout) (items : List Item) (p : Point) (input : List ℕ) (m k : ℕ)
    → Same (run m input (state_at lay items p)) (course lay items k input p)
    → observed_machine (state_at lay items p) input m ≡ observed_items lay items p input k
same_seen lay items p input m k h = λ j. record
    { out = h.out j; used = length input - length (h.left j); finish = h.finish j }

pub course_none : (lay : Layout) (items : List Item) (input : List ℕ) (p : Point)
    → course lay items 0 input p ≡ stands input (Going p)
unfolding course
course_none lay items input p = refl

pub course_more : (lay : Layout) (items : List Item) (n : ℕ) (input : List ℕ) (p : Point)
    → course lay items (suc n) input p ≡ after [] (label_of (slice_get items p.item))
    (onward lay items (course lay items n) input p (turn lay items p))
unfolding course
course_more lay items n input p = refl

pub trace_none : (input : List ℕ) (s : State) → trace 0 input s ≡ []
unfolding trace
trace_none input s = refl

pub trace_more : (m : ℕ) (input : List ℕ) (s : State)
    → trace (suc m) input s ≡ s.pc ∷ trace_after (trace m) input s (step s)
unfolding trace
trace_more m input s = refl

-- ---- the steps of an item

module _ (i : Item) (end : ℕ) (t : State) where
  pub climbs_run : (k : ℕ) (s : State) → StepsAtRisingPcs i k end s t → (m : ℕ) (input : List ℕ)
      → run (k + m) input s ≡ run m input t
  climbs_run zero s h m input =
      let e : 0 + m ≡ m = omega arith in
      ap (λ n. run n input s) e ∙ ap (run m input) h.1
  climbs_run (suc zero) s h m input =
      let e : 1 + m ≡ suc m = omega arith in
      ap (λ n. run n input s) e ∙ run_more m input s ∙ ap (onward' (run m) input s) h.1.0
  climbs_run (suc (suc k)) s h m input =
      let e : suc (suc k) + m ≡ suc (suc k + m) = omega arith in
      ap (λ n. run n input s) e ∙ run_more (suc k + m) input s ∙ ap
      (onward' (run (suc k + m)) input s) h.1.1.0 ∙ climbs_run (suc k) h.0 h.1.1.1.1 m input

  -- before the last of the steps the machine goes on
  pub climbs_part : (k : ℕ) (s : State) → StepsAtRisingPcs i (suc k) end s t → (m : ℕ) → m ≤ k
      → (input : List ℕ) → (u : State) × (run m input s ≡ stands' input (Going' u))
  climbs_part k s h zero le input = (s, run_none input s)
  climbs_part zero s h (suc m) le input = absurd (omega arith)
  climbs_part (suc k) s h (suc m) le input =
      let r = climbs_part k h.0 h.1.1.1.1 m (omega arith) input in
      (r.0, run_more m input s ∙ ap (onward' (run m) input s) h.1.1.0 ∙ r.1)

  pub climbs_below : (k : ℕ) (s : State) → StepsAtRisingPcs i (suc k) end s t → s.pc < end
  climbs_below zero s h = h.0
  climbs_below (suc k) s h = let b = climbs_below k h.0 h.1.1.1.1 in let r = h.1.0 in omega arith

  module _ (addresses : List ℕ) where
    -- of the addresses of an item's steps the first one counts
    pub climbs_trace : (k : ℕ) (s : State) → StepsAtRisingPcs i (suc k) end s t
        → ((c : ℕ) → s.pc < c → c < end → is_one_of addresses c ≡ false) → (m : ℕ) (input : List ℕ)
        → procedures_at addresses (trace (suc k + m) input s) ≡ procedure_from 0 addresses s.pc
        ++ procedures_at addresses (trace m input t)
    climbs_trace zero s h none m input =
        let e : 1 + m ≡ suc m = omega arith in
        ap (λ n. procedures_at addresses (trace n input s)) e ∙ ap (procedures_at addresses)
        (trace_more m input s)
        ∙ ap (λ o. procedure_from 0 addresses s.pc ++ procedures_at addresses
        (trace_after (trace m) input s o)) h.1.0
    climbs_trace (suc k) s h none m input =
        let u = h.0 in
        let e : suc (suc k) + m ≡ suc (suc k + m) = omega arith in
        let up = h.1.0 in
        let below = climbs_below k u h.1.1.1.1 in
        let rest = climbs_trace k u h.1.1.1.1 (λ c lo hi. none c (omega arith) hi) m input in
        ap (λ n. procedures_at addresses (trace n input s)) e ∙ ap (procedures_at addresses)
        (trace_more (suc k + m) input s)
        ∙ ap (λ o. procedure_from 0 addresses s.pc ++ procedures_at addresses
        (trace_after (trace (suc k + m)) input s o)) h.1.1.0
        ∙ ap (λ way. procedure_from 0 addresses s.pc ++ way)
        (rest ∙ ap (λ f. f ++ procedures_at addresses (trace m input t))
        (not_one 0 addresses u.pc (none u.pc up below)))

    pub climbs_trace_part : (k : ℕ) (s : State) → StepsAtRisingPcs i (suc k) end s t
        → ((c : ℕ) → s.pc < c → c < end → is_one_of addresses c ≡ false) → (m : ℕ) → m ≤ k
        → (input : List ℕ) → procedures_at addresses (trace (suc m) input s) ≡ procedure_from 0
        addresses s.pc ++ []
    climbs_trace_part k s h none zero le input =
        ap (procedures_at addresses) (trace_more 0 input s) ∙ ap
        (λ way. procedure_from 0 addresses s.pc ++ procedures_at addresses way)
        (none_behind (step s))
      where
        none_behind : (o : Outcome) → trace_after (trace 0) input s o ≡ []
        none_behind (Next' u) = trace_none input u
        none_behind (Written' a len bytes u) = trace_none input u
        none_behind (Asked' a) = trace_none (drop 1 input) (given s (slice_get input 0))
        none_behind (Ended' c) = refl
        none_behind (Trapped' kind) = refl
    climbs_trace_part zero s h none (suc m) le input = absurd (omega arith)
    climbs_trace_part (suc k) s h none (suc m) le input =
        let u = h.0 in
        let up = h.1.0 in
        let below = climbs_below k u h.1.1.1.1 in
        let rest = climbs_trace_part k u h.1.1.1.1 (λ c lo hi. none c (omega arith) hi) m
        (omega arith) input in
        ap (procedures_at addresses) (trace_more (suc m) input s)
        ∙ ap (λ o. procedure_from 0 addresses s.pc ++ procedures_at addresses
        (trace_after (trace (suc m)) input s o)) h.1.1.0
        ∙ ap (λ way. procedure_from 0 addresses s.pc ++ way)
        (rest ∙ ap (λ f. f ++ []) (not_one 0 addresses u.pc (none u.pc up below)))
