-- Placed items that were selected for low code keep pace with it.
--
-- For any number of units there is a moment of the items at which they have come where the low code
-- comes with these units, and have
-- passed only procedures that are entered with them. The machine comes to that moment in no more
-- steps than there are words before
-- the procedures, in each of these, and behind them. And what it has come to by then it has come to
-- after any more steps.
use Rattle.std.proofs.Common.{◌≡◌, inl, inr, ℕ, ◌+◌, ◌-◌, ◌*◌, ◌≤◌, max, List, [], ◌++◌, length, slice_index_or, refl, sym, ap, ◌∙◌, subst, append_assoc, arith}
use Rattle.std.specs.Prelude.{true}
use Rattle.std.proofs.Math.Nat.{mul_comm}
use Rattle.seq.proofs.Order.{more_times}
use Rattle.headline.specs.Carries as told
use Rattle.headline.specs.Carries.{IsBytes, IsPrefixOf, MeaningResult, MachineObservation, Meaning, Machine, runs, exits, EndMatchesExit, ReachesResult, KeepsPace, MeaningRefines}
use Rattle.elf32.specs.File.{program}
use Rattle.low_code.specs.Tree.{Program}
use Rattle.low_code.specs.Run.{limited, world_of, NeverMissing}
use Rattle.low_code.specs.Told.{meaning_of_low, entered_by_low}
use Rattle.low_code.proofs.Limits.{limits_only_stop}
use Rattle.register_alloc.specs.Assignment.{Assignment, words_at}
use Rattle.rv32_machine.specs.Steps.{State, start_of}
use Rattle.rv32_machine.specs.Runs.{MachineEnd, Going, Exited, Stopped, Run, run, used, has_ended}
use Rattle.rv32_machine.proofs.Composed.{end_stays, output_grows}
use Rattle.rv32_steps.specs.Seen.{finish_of, observed_machine}
use Rattle.rv32_steps.specs.Trace.{trace, procedures_at}
use Rattle.rv32_items.specs.declared.Item.{Item}
use Rattle.rv32_items.specs.Course.{Layout, Point, state_at, course}
use Rattle.rv32_items.specs.Placed.{Placed}
use Rattle.rv32_items.specs.Told.{observed_items}
use Rattle.rv32_items.specs.Laws.{addresses_of}
use Rattle.rv32_items.proofs.Moments.{same_seen}
use Rattle.rv32_items.proofs.LastStep.{stops_are_last}
use Rattle.rv32_select.specs.Selects.{Selects, start_point}
use Rattle.grin_compile.specs.Limits.{greatest}
use Rattle.grin_compile.specs.Words.{procedures_end, start_words, code_words, entered_words, StepsAreWithinWords, KeepsPaceByWords, most_steps}
use Rattle.grin_compile.specs.Layers.{LayersBoundSteps, LayersKeepPace}
use Rattle.grin_compile.proofs.Composed.{reaches_kept}
use Rattle.grin_compile.proofs.Selected.{reaches}
use Rattle.grin_compile.proofs.Images.{starts, code_ends, below_heap, in_code}
use Rattle.grin_compile.proofs.WordsLeft.{rise, stops_within, left_at, left_most, paced}
use Rattle.grin_compile.proofs.WordsDone.{done_from}
use Rattle.grin_compile.proofs.ProcedureWords.{weighs, starts_with, few_steps, few_entered, more_entered}

-- ---- later moments of a machine

-- where a machine runs on, it has not come to an end, and goes on to write more
running_on : (t : MeaningResult) (s s' : MachineObservation) → s.finish ≡ runs
    → IsPrefixOf s.out s'.out
    → ReachesResult t s → ReachesResult t s'
running_on t s s' on more (inl r) = inl (
  (
    r.0.0 ++ more.0,
    more.1 ∙ ap (λ x. x ++ more.0) r.0.1
        ∙ append_assoc t.out r.0.0 more.0,
  ),
  going t.end r.1,
)
  where
    going : (e : told.End) → EndMatchesExit e t s → EndMatchesExit e t s'
    going told.going m = tt
    going told.done m = let no : exits 0 ≡ runs = sym m.1 ∙ on in cc
    going told.no_alternative m = let no : exits 3 ≡ runs = sym m.1 ∙ on in cc
    going told.missing m = absurd m
running_on t s s' on more (inr (inl four, b)) = let no : exits 4 ≡ runs = sym four ∙ on in cc
running_on t s s' on more (inr (inr five, b)) = let no : exits 5 ≡ runs = sym five ∙ on in cc

-- what a machine has come to after some steps it has come to after more
pub reaches_later : (start : State) (i : List ℕ) (t : MeaningResult) (m d : ℕ)
    → ReachesResult t (observed_machine start i m) → ReachesResult t
    (observed_machine start i (m + d))
reaches_later start i t m d h = by_end (run m i start).end refl
  where
    seen_of : Run → MachineObservation
    seen_of r = record { out = r.out; used = used i r; finish = finish_of r.end }

    ended : has_ended (run m i start).end ≡ true → ReachesResult t (seen_of (run (m + d) i start))
    ended e = subst (λ r. ReachesResult t (seen_of r)) (sym (end_stays m d i start e)) h

    by_end : (e : MachineEnd) → (run m i start).end ≡ e
        → ReachesResult t (seen_of (run (m + d) i start))
    by_end (Going s) e = running_on t (seen_of (run m i start)) (seen_of (run (m + d) i start))
        (ap finish_of e)
        (output_grows m d i start) h
    by_end (Exited code s) e = ended (ap has_ended e)
    by_end (Stopped kind s) e = ended (ap has_ended e)

-- ---- how many steps

both_times : (a b c d : ℕ) → a ≤ b → c ≤ d → a * c ≤ b * d
both_times a b c d first second =
    let left = more_times a b c first in
    let right = more_times c d b second in
    omega (arith, left, right, mul_comm b c, mul_comm b d)

-- where each entry is one of the units, the most steps that the start or a unit takes are enough
-- for each
pub keeps_pace : (start : ℕ) (words : List ℕ) (told : Meaning) (entered : List ℕ → ℕ → List ℕ)
    (seen : Machine)
    → ((i : List ℕ) → IsBytes i → (n : ℕ) → length (entered i n) ≤ n)
    → KeepsPaceByWords start words told entered seen
    → KeepsPace (max (start + 9) (greatest words)) told seen
keeps_pace start words told entered seen few paced i bytes n m le =
    let most = max (start + 9) (greatest words) in
    let all = few_entered words (entered i n) in
    let product = both_times (greatest words) most (length (entered i n)) n (omega arith)
    (few i bytes n) in
    let units : most * (n + 1) ≡ most * n + most = omega arith in
    paced i bytes n m (omega (arith, le, all, product, units))

module _ (l : Program) (a : Assignment) (cells stack : ℕ) (items : List Item) (words : List ℕ)
    (s : Selects l a cells stack items) (placed : Placed items words)
    (few : length words ≤ 268435456) where
  abbrev lay : Layout
  lay = placed.lay

  abbrev start : Point
  start = start_point l.width cells stack lay

  abbrev addresses : List ℕ
  addresses = addresses_of lay items s.begins

  abbrev each : List ℕ
  each = code_words words addresses

  nine_behind : lay.address s.flows.stops + 36 ≡ 65536 + 4 * length words
  nine_behind = let last = stops_are_last items words placed s.begins s.flows
      in omega (arith, s.nine_stop, last, code_ends items words placed)

  -- the code has the nine words of the stops
  pub nine_words : 9 ≤ length words
  nine_words =
      let up = rise items words placed s.begins s.stand s.flows 0 s.flows.stops (omega arith)
      (omega (arith, stops_within items words placed s.begins s.stand s.flows)) in
      omega (arith, nine_behind, up, placed.rises.first, placed.at_first)

  stops_at : lay.address s.flows.stops ≡ procedures_end words
  stops_at = omega (arith, nine_behind, nine_words)

  -- the most steps are no more than the words of the code
  pub few_code_steps : most_steps words addresses ≤ length words
  few_code_steps =
      few_steps items words placed s.begins s.stand s.flows stops_at nine_words
      (λ b is. (in_code items words placed s.begins s.stand s.flows.instruction_behind b is).0)

  abbrev image : State
  image = start_of (program words (4 * l.width * cells) stack)

  begun : state_at lay items start ≡ image
  begun = sym (starts items words placed l.width cells stack)

  -- the words that are left at the start
  first_left : left_at items words placed s.begins s.stand s.flows 0 ≤ 4 *
      (start_words words addresses + 9)
  first_left =
      let first = left_most items words placed s.begins s.stand s.flows 0 in
      let begun = starts_with items words placed s.begins s.stand s.flows stops_at in
      omega (arith, first, begun, code_ends items words placed, nine_behind)

  pub steps_within : StepsAreWithinWords words addresses image
  steps_within i bytes m =
      let h = done_from items words placed s.begins s.stand s.flows (λ f. slice_index_or each f 0)
      (weighs items words placed s.begins s.stand s.flows stops_at) m i start (_, refl) refl
      (λ k. s.home lay placed.rises (below_heap items words placed few) i bytes k) in
      subst (λ t. length (trace m i t) ≤ start_words words addresses + entered_words each
      (procedures_at addresses (trace m i t)) + 9) begun (omega (arith, h, first_left))

  module _ (told : Meaning) (entered : List ℕ → ℕ → List ℕ)
      (tells : (i : List ℕ) → IsBytes i → (n : ℕ) → MeaningRefines (told i n)
      (meaning_of_low l (words_at a) i n))
      (enters : (i : List ℕ) → IsBytes i → (n : ℕ) → entered_by_low l (words_at a) i n ≡ entered i
      n)
      (never : NeverMissing l) where
    module _ (i : List ℕ) (bytes : IsBytes i) (n : ℕ) where
      -- the moment at which the items have come where the low code comes with n units
      arrived : (m : ℕ) × ((m ≤ start_words words addresses + entered_words each (entered i n) + 9)
          × ReachesResult (told i n) (observed_machine (state_at lay items start) i m))
      arrived =
          let below = below_heap items words placed few in
          let r = s.arrives lay placed.rises below i bytes n in
          let c = course lay items r.0 i start in
          let low = reaches l a cells stack never i bytes s.begins n c r.1 in
          let up = reaches_kept (told i n) (meaning_of_low l (words_at a) i n)
          (observed_items lay items start i r.0)
          (tells i bytes n) low in
          let q = paced items words placed s.begins s.stand s.flows (λ f. slice_index_or each f 0)
          (weighs items words placed s.begins s.stand s.flows stops_at) r.0 i start [] (_, refl)
          (λ k. s.home lay placed.rises below i bytes k) in
          let within = (limits_only_stop l (words_at a) cells stack i n).0.entered in
          let all : entered_words each (entered i n) ≡ entered_words each
          ((world_of (limited l (words_at a) cells stack i n)).entered ++ within.0)
          = ap (entered_words each)
          (sym (enters i bytes n) ∙ within.1) in
          let more = more_entered each (world_of (limited l (words_at a) cells stack i n)).entered
          within.0 in
          let passed : entered_words each (procedures_at s.begins c.passed) ≡ entered_words each
          (world_of (limited l (words_at a) cells stack i n)).entered
          = ap (entered_words each) r.1.entered in (
            q.count,
            (
              omega (arith, q.few, first_left, passed, more, all),
              subst (ReachesResult (told i n))
                  (sym (same_seen lay items start i q.count r.0 q.same)) up,
            ),
          )

      enough : (m : ℕ) → start_words words addresses + entered_words each (entered i n) + 9 ≤ m
          → ReachesResult (told i n) (observed_machine (state_at lay items start) i m)
      enough m le =
          let h = arrived in
          let more : h.0 + (m - h.0) ≡ m = omega (arith, h.1.0, le) in
          subst (λ k. ReachesResult (told i n) (observed_machine (state_at lay items start) i k))
          more
          (reaches_later (state_at lay items start) i (told i n) h.0 (m - h.0) h.1.1)

    pub keeps_pace_by_words : KeepsPaceByWords (start_words words addresses) each told entered
        (observed_machine image)
    keeps_pace_by_words i bytes n m le = subst
        (λ t. ReachesResult (told i n) (observed_machine t i m)) begun
        (enough i bytes n m le)

pub layers_keep_pace : LayersKeepPace
layers_keep_pace told entered l a cells stack items words tells enters never s placed few =
    keeps_pace_by_words l a cells stack items words s placed few told entered tells enters never

pub layers_bound_steps : LayersBoundSteps
layers_bound_steps l a cells stack items words s placed few
    = steps_within l a cells stack items words s placed few
