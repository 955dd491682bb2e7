-- Words that are the code for a meaning.
use Rattle.std.specs.Prelude.{◌≡◌, ◌≢◌, ℕ, ◌+◌, ◌-◌, ◌*◌, ◌≤◌, ◌<◌, true, List, [], length}
use Rattle.headline.specs.Carries.{IsBytes, MeaningResult, Meaning, Comes, Carries}
use Rattle.elf32.specs.File.{program}
use Rattle.rv32_machine.specs.Steps.{State, start_of}
use Rattle.rv32_machine.specs.Runs.{Exited, run}
use Rattle.rv32_steps.specs.Seen.{observed_machine}
use Rattle.rv32_steps.specs.Trace.{trace, is_one_of, AllDifferent, procedures_at, IsLastBefore, Forward}
use Rattle.low_code.specs.Tree as low
use Rattle.low_code.specs.Run.{limited, world_of, run as low_run}
use Rattle.limits.specs.Limits.{code_start, heap_start}

-- where the image of these words starts, with a heap and a stack of so many bytes
abbrev pub image_start_state : (code : List ℕ) (heap_bytes stack : ℕ) → State
image_start_state code heap_bytes stack = start_of (program code heap_bytes stack)

-- an address within the code
abbrev pub IsInCode : (code : List ℕ) → ℕ → Type 0
IsInCode code b = (code_start ≤ b) × (b < code_start + 4 * length code)

-- a meaning, and the procedures that it enters; and when what it tells needs more than was given
module _ (HeapFull StackFull : MeaningResult → Type 0) (told : Meaning)
    (entered : List ℕ → ℕ → List ℕ) where
  -- on an input, whatever the number of steps: the procedures at whose addresses the steps stood
  -- are those that are entered, so many units tell what is seen, and the run goes forward
  pub record Runs (addresses : List ℕ) (start : State) (i : List ℕ) (m : ℕ) : Type 0 where
    pub enters : let met = procedures_at addresses (trace m i start) in met ≡ entered i (length met)
    pub comes :
        let n = length (procedures_at addresses (trace m i start)) in
        Comes HeapFull StackFull (told i) n (observed_machine start i m)
    pub forward : Forward addresses m i start []

  -- the code carries the meaning and enters so many procedures in its order, each at an address
  -- of its own
  pub record IsCodeFor (procs : ℕ) (code : List ℕ) (start : State)
      (addresses : List ℕ) : Type 0 where
    pub one_each : length addresses ≡ procs
    pub different : AllDifferent addresses
    pub in_code : (b : ℕ) → is_one_of addresses b ≡ true → IsInCode code b
    pub carries : Carries HeapFull StackFull told (observed_machine start)
    pub runs : (i : List ℕ) → IsBytes i → (m : ℕ) → Runs addresses start i m

-- ---- the early stops of an image

-- where a run has exited since it found no alternative, x5 is 4 behind the last of its steps that
-- stood before `stops`
abbrev pub TellsLastStep : (stops : ℕ) → (start : State) → (i : List ℕ) → (m : ℕ) → Type 0
TellsLastStep stops start i m =
    (s : State) → (run m i start).end ≡ Exited 3 s
    → IsLastBefore stops (trace m i start) (s.regs 5 - 4)

-- where the code of procedures ends: the last nine instructions are those by which an image stops
-- early, and they tell the last step before them
pub record HasStops (code : List ℕ) (start : State) (addresses : List ℕ) : Type 0 where
  pub stops : ℕ
  pub nine_stop : stops + 4 * 9 ≡ code_start + 4 * length code
  pub before_stops : (b : ℕ) → is_one_of addresses b ≡ true → b < stops
  pub tells_last : (i : List ℕ) → IsBytes i → (m : ℕ) → TellsLastStep stops start i m

-- ---- the cells of an image that has exited

-- low code, over frames of so many words, in the room of an image with procedures at these addresses
module _ (l : low.Program) (frame_words : ℕ → ℕ) (cells stack : ℕ) (addresses : List ℕ)
    (start : State) where
  -- a unit for each procedure that m steps enter
  abbrev pub units_entered : (i : List ℕ) → (m : ℕ) → ℕ
  units_entered i m = length (procedures_at addresses (trace m i start))

  -- the cells that it has bound with these units
  abbrev pub cells_bound : (i : List ℕ) → (m : ℕ) → ℕ
  cells_bound i m =
      length (world_of (limited l frame_words cells stack i (units_entered i m))).cells

  -- In a state after m steps x3 is the address of the next cell, right behind all that are bound,
  -- which are no more than were given; and but for a full stack nothing was short of room.
  pub record IsBehindCells (i : List ℕ) (m code : ℕ) (s : State) : Type 0 where
    pub fits : cells_bound i m ≤ cells
    pub next : s.regs 3 ≡ heap_start + 4 * l.width * cells_bound i m
    pub whole : code ≢ 5
        → limited l frame_words cells stack i (units_entered i m)
        ≡ low_run l frame_words i (units_entered i m)

  -- so it is wherever the image has exited, but not with its heap full
  abbrev pub TellsCellsBound : Type 0
  TellsCellsBound =
      (i : List ℕ) → IsBytes i → (m code : ℕ) (s : State) → code ≢ 4
      → (run m i start).end ≡ Exited code s → IsBehindCells i m code s
