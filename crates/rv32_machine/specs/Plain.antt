-- Instructions after which the machine just goes on: nothing is written, nothing is asked for, and
-- the program has not ended.
use Rattle.std.specs.Prelude.{◌≡◌, ◌<◌, ℕ, zero, suc}
use Rattle.rv32_machine.specs.declared.machine.StepResult.{StepResult}
use Rattle.rv32_machine.specs.declared.machine.StepResult.TheVariants.{Next as Next', Read as Read', Write as Write', Exit, Trap}
use Rattle.rv32_machine.specs.Steps.{Stand, IsRunning, Does, state_of, step}

-- so many of them, from where the machine stands first to where it stands last
abbrev pub StepsWithoutEvent : ℕ → (first last : Stand) → Type 0
StepsWithoutEvent zero first last = last ≡ first
StepsWithoutEvent (suc n) first last =
    (m : Stand) × (StepsWithoutEvent n first m × Does (state_of m) (step (state_of m)) Next' last)

-- so many of them, and then an instruction that does more, of which the machine tells
pub record StopsAtEvent (n : ℕ) (first : Stand) (result : StepResult) (last : Stand) : Type 0 where
  pub at : Stand
  pub goes : StepsWithoutEvent n first at
  pub tells : Does (state_of at) (step (state_of at)) result last

-- at most so many instructions, up to the first that does more
abbrev pub RunsUpToEvent : (most : ℕ) → (first : Stand) → (plain : ℕ)
    → StepResult → (last : Stand) → Type 0
RunsUpToEvent most first plain Next' last =
    (plain ≡ most) × StepsWithoutEvent plain first last × IsRunning last
RunsUpToEvent most first plain (Read' address) last =
    (plain < most) × StopsAtEvent plain first (Read' address) last
RunsUpToEvent most first plain (Write' address len) last =
    (plain < most) × StopsAtEvent plain first (Write' address len) last
RunsUpToEvent most first plain (Exit code) last =
    (plain < most) × StopsAtEvent plain first (Exit code) last
RunsUpToEvent most first plain (Trap kind pc) last =
    (plain < most) × StopsAtEvent plain first (Trap kind pc) last
