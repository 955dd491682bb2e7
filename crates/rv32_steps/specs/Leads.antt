-- Stretches of a run: from one state to another in so many steps.
use Rattle.std.specs.Prelude.{◌≡◌, ℕ, ◌+◌, List}
use Rattle.rv32_machine.specs.Memory.{Stretch}
use Rattle.rv32_machine.specs.Steps.{State}
use Rattle.rv32_machine.specs.Runs.{run, after, Exited}

-- a state, by its parts
abbrev pub at : (regs : ℕ → ℕ) → (pc : ℕ) → (memory : List Stretch) → State
at regs pc memory = record { regs = regs; pc = pc; memory = memory }

-- in k steps from s to t, with these bytes written and, whatever the input, no byte read
pub record StepsTo (k : ℕ) (s : State) (written : List ℕ) (t : State) : Type 0 where
  pub by : (n : ℕ) (input : List ℕ) → run (k + n) input s ≡ after written (run n input t)

-- in k steps from s on this input to t, with these bytes written and this input left
pub record StepsToOnInput (k : ℕ) (input : List ℕ) (s : State) (written : List ℕ)
    (left : List ℕ) (t : State) : Type 0 where
  pub by : (n : ℕ) → run (k + n) input s ≡ after written (run n left t)

-- in k steps from s on this input to the exit at t with a code, with these bytes written and this
-- input left
pub record ExitsOn (k : ℕ) (input : List ℕ) (s : State) (written : List ℕ)
    (left : List ℕ) (code : ℕ) (t : State) : Type 0 where
  pub by : (n : ℕ)
      → run (k + n) input s ≡ record { out = written; left = left; end = Exited code t }
