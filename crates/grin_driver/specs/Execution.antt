-- What each status says of an executable that is run.
use Rattle.std.specs.Prelude.{◌≡◌, ◌≤◌, ◌⊎◌, ℕ, zero, suc, Bool, true, List, ◌++◌, length}
use Rattle.elf32.specs.Image.{Image}
use Rattle.elf32.specs.Rules as elf
use Rattle.elf32.specs.Rules.{Breaks, KeepsBelow, Loads}
use Rattle.elf32.specs.declared.refusal.ElfRefusal.{ElfRefusal}
use Rattle.elf32.specs.declared.refusal.ElfRefusal.TheVariants.{SegmentOutside, SegmentsOverlap}
use Rattle.grin_io.specs.Changes.{SourceChange, SinkChange, BeginsWith, ReadExactly, SourceAtFault, TookExactly, SinkAtFault, FaultWasCounted}
use Rattle.grin_io.specs.declared.outside.Fault.{Fault}
use Rattle.grin_io.specs.declared.outside.Fault.TheVariants.{Read, Write}
use Rattle.rv32_machine.specs.Steps.{start_of}
use Rattle.rv32_machine.specs.Runs.{MachineEnd, Going, Exited as exited, Stopped, run, pieces, used, AsksForMore}
use Rattle.rv32_machine.specs.declared.machine.Stop.{Stop}
use Rattle.rv32_machine.specs.declared.machine.Stop.TheVariants.{Steps, Exit, Trap}
use Rattle.text_commands.specs.declared.status.Status.{Status}
use Rattle.text_commands.specs.declared.status.Status.TheVariants.{Done, Refused, StepLimit, Exited, Trapped, OutOfMemory, ReadFault, WriteFault}

-- the number that is shown of a refusal: that of the program header, where it names one
abbrev pub shown_number : ElfRefusal → ℕ
shown_number (SegmentOutside i) = i
shown_number (SegmentsOverlap j) = j
shown_number _ = 0

-- the bytes break this rule, and none with a smaller number
pub record IsUnloadable (bytes : List ℕ) (rule number : ℕ) : Type 0 where
  pub refusal : ElfRefusal
  pub broken : Breaks refusal bytes
  pub smallest : KeepsBelow (elf.rule refusal) bytes
  pub rule_is : elf.rule refusal ≡ rule
  pub number_is : shown_number refusal ≡ number

-- why there is no program
abbrev pub IsExecLoadFailure : (bytes : List ℕ) → Status → Type 0
IsExecLoadFailure bytes (Refused rule number) = IsUnloadable bytes rule number
IsExecLoadFailure bytes OutOfMemory = Unit {0}
IsExecLoadFailure bytes _ = ⊥

-- the status that names an answer of the machine
abbrev pub status_of : Stop → Status
status_of Steps = StepLimit
status_of (Exit zero) = Done
status_of (Exit (suc code)) = Exited (suc code)
status_of (Trap kind pc) = Trapped kind pc

-- the machine's answer at the place where a run stands
abbrev pub stop_at : MachineEnd → Stop
stop_at (Going s) = Steps
stop_at (exited code s) = Exit code
stop_at (Stopped kind s) = Trap kind s.pc

-- A program runs from a source to a sink.
module _ {I K : Type 0} (i : SourceChange I) (o : SinkChange K) where
  -- The source gave some bytes, one by one as they were asked for, and its end was met or not; and
  -- this holds of them.
  abbrev pub OfGiven : (List ℕ → Bool → Type 0) → Type 0
  OfGiven Holds = (given : List ℕ) × ((ended : Bool) × Holds given ended)

  -- The source gave just these bytes, and the sink took just the pieces that the run puts: on
  -- whatever input begins with these bytes, the run stopped so, and used just these. The end was
  -- met only where the run asks for more.
  pub record Stops (program : Image) (steps : ℕ) (stop : Stop) (given : List ℕ) (ended : Bool)
      : Type 0 where
    pub gave : ReadExactly i given ended
    pub wanted : ended ≡ true → AsksForMore steps (start_of program) given
    pub stands : (bytes : List ℕ) → BeginsWith given ended bytes
        → let r = run steps bytes (start_of program) in
        (stop_at r.end ≡ stop) × (bytes ≡ given ++ r.left)
    pub took : (bytes : List ℕ) → BeginsWith given ended bytes
        → TookExactly o (pieces steps bytes (start_of program))

  -- A call of the source or the sink failed, which was the last one. Before it the source gave just
  -- these bytes. On whatever input begins with them the run uses these, and the pieces that were
  -- put were due. The end was met, or a read failed, only where the run asks for more.
  pub record Fails (program : Image) (steps : ℕ) (fault : Fault) (given : List ℕ) (ended : Bool)
      : Type 0 where
    pub raised : FaultWasCounted fault i o
    pub gave : SourceAtFault fault i given ended
    pub wanted : (ended ≡ true) ⊎ (fault ≡ Read) → AsksForMore steps (start_of program) given
    pub uses : (bytes : List ℕ) → BeginsWith given ended bytes
        → length given ≤ used bytes (run steps bytes (start_of program))
    pub puts : (bytes : List ℕ) → BeginsWith given ended bytes
        → SinkAtFault fault o (pieces steps bytes (start_of program))

  abbrev pub IsUntouched : Type 0
  IsUntouched = (i.new ≡ i.old) × (o.new ≡ o.old)

  -- The status of a program: a fault, or the machine's answer.
  abbrev pub Executes : (program : Image) → (steps : ℕ) → Status → Type 0
  Executes program steps ReadFault = OfGiven (Fails program steps Read)
  Executes program steps WriteFault = OfGiven (Fails program steps Write)
  Executes program steps OutOfMemory = IsUntouched
  Executes program steps status =
      (stop : Stop) × (status_of stop ≡ status) × OfGiven (Stops program steps stop)

  -- The status of the bytes of a file: the rule that they break, or that of their program.
  abbrev pub Execution : (bytes : List ℕ) → (steps : ℕ) → Status → Type 0
  Execution bytes steps (Refused rule number) = IsUnloadable bytes rule number × IsUntouched
  Execution bytes steps OutOfMemory = IsUntouched
  Execution bytes steps status =
      (program : Image) × Loads bytes program × Executes program steps status
