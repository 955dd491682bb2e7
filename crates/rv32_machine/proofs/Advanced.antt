-- Instructions after which the machine just goes on, and the one after them, in a run.
use Rattle.std.proofs.Common.{◌≡◌, ℕ, zero, suc, ◌+◌, ◌-◌, ◌<◌, ◌≤◌, List, [], Option, None, Bool, false, sym, subst, arith}
use Rattle.grin_io.specs.Changes.{source_change, sink_change, TookExactly, SinkAtFault}
use Rattle.grin_io.specs.declared.outside.Fault.{Fault}
use Rattle.grin_io.specs.declared.outside.Fault.TheVariants.{Read, Write}
use Rattle.grin_io.proofs.Changes.{took_none}
use Rattle.rv32_machine.specs.declared.machine.StepResult.{StepResult}
use Rattle.rv32_machine.specs.declared.machine.StepResult.TheVariants.{Read as Read'}
use Rattle.rv32_machine.specs.declared.machine.Stop.{Stop}
use Rattle.rv32_machine.specs.declared.machine.Stop.TheVariants.{Steps}
use Rattle.rv32_machine.specs.Steps.{State, Stand, IsAt, IsRunning, Does, state_of, step, given}
use Rattle.rv32_machine.specs.Runs.{piece_of, Counted, BrokenByIoFault}
use Rattle.rv32_machine.specs.Plain.{StepsWithoutEvent, StopsAtEvent}
use Rattle.rv32_machine.specs.OneByte.{ReadsOneByte}
use Rattle.rv32_machine.proofs.Loops.{Kept, starts, plain_turn, read_turn, counted_turn, read_fails, put_fails}
use Rattle.rv32_machine.proofs.Counts.{count_all}
use Rattle.rv32_machine.proofs.OneStep.{Turns, next_turns, next_piece_is}

module _ {I K : Type 0} (reads : I → ℕ → Option (List ℕ) → I → Type 0) (left : I → Option (List ℕ))
    (is_over : I → Type 0) (lost : I → ℕ)
    (gives : K → List ℕ → Bool → K → Type 0) (taken : K → Option (List ℕ)) (faults : K → ℕ)
    (s : State) (first : I) (old : K) where
  abbrev At : (k : ℕ) → Stand → I → K → Type 0
  At k m input out = Kept reads left is_over lost gives taken faults s first old k m input out

  -- at the start all steps are left
  pub begins : (steps : ℕ) (m : Stand) → state_of m ≡ s → m.over ≡ false → m.waiting ≡ false
      → At (steps - steps) m first old
  begins steps m at over waiting =
      let count : steps - steps ≡ 0 = omega arith in
      subst (λ j. At j m first old) (sym count)
      (starts reads left is_over lost gives taken faults s first old m at over waiting)

  -- where it goes on, all steps are done
  pub counted_all : (steps : ℕ) (new : Stand) (input : I) (out : K) → At steps new input out
      → Counted (source_change reads left is_over lost first input)
      (sink_change gives taken faults old out) steps s Steps steps new
  counted_all steps new input out kept = record {
    answered = kept;
    counts = λ i b. count_all steps i s new (kept.stays i b).stands;
  }

  -- and behind the last of them
  pub counted_end : (steps rest : ℕ) → rest ≡ 0 → (new : Stand) (input : I) (out : K)
      → At (steps - rest) new input out
      → Counted (source_change reads left is_over lost first input)
      (sink_change gives taken faults old out) steps s Steps steps new
  counted_end steps rest none new input out kept =
      let count : steps - rest ≡ steps = omega (arith, none) in
      counted_all steps new input out (subst (λ j. At j new input out) count kept)

  gone_on : (n k : ℕ) (m new : Stand) (input : I) (out : K) → At k m input out
      → StepsWithoutEvent n m new → At (k + n) new input out
  gone_on zero k m new input out kept h =
      let count : k + 0 ≡ k = omega arith in
      subst (λ j. At j new input out) (sym count) (subst (λ x. At k x input out) (sym h) kept)
  gone_on (suc n) k m new input out kept h =
      let count : k + suc n ≡ (k + n) + 1 = omega arith in
      let before = gone_on n k m h.0 input out kept h.1.0 in
      subst (λ j. At j new input out) (sym count)
      (plain_turn reads left is_over lost gives taken faults s first old (k + n) h.0 input out
      before new Steps (next_turns (state_of h.0) new before.ended h.1.1) out
      (took_none gives taken faults out (piece_of (step (state_of h.0)))
      (next_piece_is (state_of h.0) new h.1.1)))

  module _ (steps rest : ℕ) (within : rest ≤ steps) (m new : Stand) (input : I) (out : K)
      (kept : At (steps - rest) m input out) (plain : ℕ) where
    -- all that are left just go on
    pub all_plain : (plain ≡ rest) × StepsWithoutEvent plain m new × IsRunning new
        → At steps new input out
    all_plain a =
        let count : (steps - rest) + plain ≡ steps = omega (arith, a.0, within) in
        subst (λ j. At j new input out) count
        (gone_on plain (steps - rest) m new input out kept a.1)

    -- one does more
    module _ (result : StepResult) (a : (plain < rest) × StopsAtEvent plain m result new) where
      before : At ((steps - rest) + plain) a.1.at input out
      before = gone_on plain (steps - rest) m a.1.at input out kept a.1.goes

      below : (steps - rest) + plain < steps
      below = omega (arith, a.0, within)

      count : ((steps - rest) + plain) + 1 ≡ steps - (rest - (plain + 1))
      count = omega (arith, a.0, within)

      -- and is the last one
      pub ends_all : (stop : Stop) → (stop ≡ Steps → ⊥)
          → ((ended : Bool) → Turns (state_of a.1.at) [] ended stop new)
          → piece_of (step (state_of a.1.at)) ≡ []
          → (done : ℕ) → done ≡ ((steps - rest) + plain) + 1
          → Counted (source_change reads left is_over lost first input)
          (sink_change gives taken faults old out) steps s stop done new
      ends_all stop ended t none done is =
          subst (λ n. Counted (source_change reads left is_over lost first input)
          (sink_change gives taken faults old out) steps s stop n new) (sym is)
          (counted_turn reads left is_over lost gives taken faults s first old
          ((steps - rest) + plain) a.1.at input out before new steps stop below ended
          (t before.ended) out
          (took_none gives taken faults out (piece_of (step (state_of a.1.at))) none))

      -- and the program goes on, behind a write
      pub goes_further : (out' : K) → ((ended : Bool) → Turns (state_of a.1.at) [] ended Steps new)
          → TookExactly (sink_change gives taken faults out out')
          (piece_of (step (state_of a.1.at)))
          → At (steps - (rest - (plain + 1))) new input out'
      goes_further out' t o =
          subst (λ j. At j new input out') count
          (plain_turn reads left is_over lost gives taken faults s first old
          ((steps - rest) + plain) a.1.at input out before new Steps (t before.ended) out' o)

      -- behind a read
      pub reads_on : (address : ℕ) → Does (state_of a.1.at) (step (state_of a.1.at)) (Read' address)
          new → (later : Stand) (input' : I)
          → (answer : Option ℕ) × IsAt later (given (state_of new) answer) false false
          × ReadsOneByte (source_change reads left is_over lost input input') answer
          → At (steps - (rest - (plain + 1))) later input' out
      reads_on address h later input' g =
          subst (λ j. At j later input' out) count
          (read_turn reads left is_over lost gives taken faults s first old ((steps - rest) + plain)
          a.1.at input out before address new later h g.0 g.1 input' g.2)

      -- and fails
      pub read_breaks : (fault : Fault) → fault ≡ Read → (address : ℕ)
          → Does (state_of a.1.at) (step (state_of a.1.at)) (Read' address) new
          → faults old ≤ faults out → (last : I) → reads input 1 None last
          → BrokenByIoFault (source_change reads left is_over lost first last)
          (sink_change gives taken faults old out) steps s fault
      read_breaks fault is address h later last refused =
          subst (λ f. BrokenByIoFault (source_change reads left is_over lost first last)
          (sink_change gives taken faults old out) steps s f) (sym is)
          (read_fails reads left is_over lost gives taken faults s first old
          ((steps - rest) + plain) a.1.at input out before address new h steps below later last
          refused)

      pub put_breaks : (fault : Fault) → fault ≡ Write → (out' : K) → faults old ≤ faults out
          → SinkAtFault Write (sink_change gives taken faults out out')
          (piece_of (step (state_of a.1.at)))
          → BrokenByIoFault (source_change reads left is_over lost first input)
          (sink_change gives taken faults old out') steps s fault
      put_breaks fault is out' later b =
          subst (λ f. BrokenByIoFault (source_change reads left is_over lost first input)
          (sink_change gives taken faults old out') steps s f) (sym is)
          (put_fails reads left is_over lost gives taken faults s first old ((steps - rest) + plain)
          a.1.at input out before steps below later out' b)
