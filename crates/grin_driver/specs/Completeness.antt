-- What a command line gives where no call of the shelf, the input or the output failed: an
-- answer, or want of memory.
use Rattle.std.specs.Prelude.{◌≡◌, ◌⊎◌, ℕ, List, Option, Some, None}
use Rattle.core_reader.specs.Tree as tree
use Rattle.core_reader.specs.Text as reader
use Rattle.arity_check.specs.Program.{Program}
use Rattle.core_link.specs.Rules as linking
use Rattle.lambda_lift.specs.Rules as lifting
use Rattle.match_compile.specs.Rules as matching
use Rattle.core_types.specs.Refused as typing
use Rattle.elf32.specs.Rules.{KeepsBelow}
use Rattle.command_line.specs.Commands.{CommandLine, RunFile, CheckFile, ListFile, BuildFile, CostsFile, TraceFile, ProfileFile, ExecImage, GenRun, LinkFiles, LiftFile, MatchFile, TypesFile, SidesFile, PointsFile}
use Rattle.command_line.specs.declared.command.Listing.{Listing}
use Rattle.command_line.specs.declared.command.Listing.TheVariants.{Read, Stage}
use Rattle.stage_names.specs.declared.PassName.TheVariants.{Translate}
use Rattle.generator.specs.Generated.{generated}
use Rattle.grin_io.specs.Causes.{CountGrew}
use Rattle.grin_io.specs.Changes.{ShelfChange, SourceChange, SinkChange}
use Rattle.grin_stages.specs.Stage.{Fits}
use Rattle.text_commands.specs.declared.status.Status.{Status}
use Rattle.text_commands.specs.declared.status.Status.TheVariants.{Done, Refused, Usage, NoAlternative, HeapFull, StackFull, StepLimit, Exited, Trapped, OutOfMemory}
use Rattle.text_commands.specs.Text.{IsAccepted, IsAcceptable}
use Rattle.text_commands.specs.Operands.{HoldsOfFileBytes, HoldsOfFileTexts, text_read_limit}
use Rattle.text_commands.specs.Typing.{HasMismatchReport}
use Rattle.grin_driver.specs.Answer.{image_read_limit}

-- ---- texts

-- the text breaks none of the rules of reading and checking, nor rule 36
pub record IsCompilable (text : List ℕ) : Type 0 where
  pub source : tree.Program
  pub program : Program
  pub accepted : IsAccepted text source program
  pub fits : Fits program

-- the rules that a listing needs unbroken
abbrev pub IsListable : Listing → List ℕ → Type 0
IsListable Read text = reader.IsUnbroken text
IsListable (Stage Translate) text = IsAcceptable text
IsListable _ text = IsCompilable text

-- ---- statuses

-- the five ends of the run of a text
abbrev pub IsRunEndStatus : Status → Type 0
IsRunEndStatus Done = Unit {0}
IsRunEndStatus NoAlternative = Unit {0}
IsRunEndStatus HeapFull = Unit {0}
IsRunEndStatus StackFull = Unit {0}
IsRunEndStatus StepLimit = Unit {0}
IsRunEndStatus _ = ⊥

-- how the run of an executable ends
abbrev pub IsExecEndStatus : Status → Type 0
IsExecEndStatus Done = Unit {0}
IsExecEndStatus StepLimit = Unit {0}
IsExecEndStatus (Exited code) = Unit {0}
IsExecEndStatus (Trapped kind pc) = Unit {0}
IsExecEndStatus _ = ⊥

-- one of the five ends, or more output than there is room for
abbrev pub IsGenerationsEnd : Status → Type 0
IsGenerationsEnd (Refused rule number) = (rule ≡ 50) × (number ≡ 4096)
IsGenerationsEnd status = IsRunEndStatus status

-- ---- commands

-- want of memory, or the file has bytes of which this holds
abbrev pub OutOfMemoryOr :
    {F : Type 0} → ShelfChange F → (most : ℕ) → (file : List ℕ) → Status
    → (List ℕ → Type 0) → Type 0
OutOfMemoryOr f most file status Holds = (status ≡ OutOfMemory) ⊎ HoldsOfFileBytes f most file Holds

module _ {F I K : Type 0} (f : ShelfChange F) (i : SourceChange I) (o : SinkChange K) where
  -- no count of faults rose
  pub record NothingFailed : Type 0 where
    pub shelf : CountGrew (f.faults f.old) (f.faults f.new) → ⊥
    pub input : CountGrew (i.faults i.old) (i.faults i.new) → ⊥
    pub out : CountGrew (o.faults o.old) (o.faults o.new) → ⊥

-- What a command gives where nothing failed: want of memory, or else for what breaks no rule its
-- answer.
module _ {F : Type 0} (f : ShelfChange F) where
  abbrev pub Gives : Option CommandLine → Status → Type 0
  Gives None status = status ≡ Usage
  Gives (Some (RunFile file cells stack steps stats)) status =
      OutOfMemoryOr f text_read_limit file status (λ text.
      IsCompilable text → IsRunEndStatus status)
  Gives (Some (CheckFile file)) status =
      OutOfMemoryOr f text_read_limit file status (λ text. IsAcceptable text → status ≡ Done)
  Gives (Some (ListFile file after)) status =
      OutOfMemoryOr f text_read_limit file status (λ text. IsListable after text → status ≡ Done)
  Gives (Some (BuildFile file cells stack)) status =
      OutOfMemoryOr f text_read_limit file status (λ text. IsCompilable text → status ≡ Done)
  Gives (Some (CostsFile file cells stack)) status =
      OutOfMemoryOr f text_read_limit file status (λ text. IsCompilable text → status ≡ Done)
  Gives (Some (TraceFile file units)) status =
      OutOfMemoryOr f text_read_limit file status (λ text. IsCompilable text → status ≡ Done)
  Gives (Some (ProfileFile file)) status =
      OutOfMemoryOr f text_read_limit file status (λ text. IsCompilable text → status ≡ Done)
  Gives (Some (ExecImage image steps stats)) status =
      OutOfMemoryOr f image_read_limit image status (λ bytes.
      KeepsBelow 49 bytes → IsExecEndStatus status)
  Gives (Some (GenRun seed size)) status =
      (status ≡ OutOfMemory) ⊎ (IsCompilable (generated seed size) → IsGenerationsEnd status)
  Gives (Some (LinkFiles files)) status =
      (status ≡ OutOfMemory)
      ⊎ HoldsOfFileTexts f text_read_limit files (λ texts. linking.IsUnbroken texts → status ≡ Done)
  Gives (Some (LiftFile file)) status =
      OutOfMemoryOr f text_read_limit file status (λ text. lifting.IsUnbroken text → status ≡ Done)
  Gives (Some (MatchFile file)) status =
      OutOfMemoryOr f text_read_limit file status (λ text. matching.IsUnbroken text → status ≡ Done)
  Gives (Some (TypesFile file)) status =
      OutOfMemoryOr f text_read_limit file status (λ text.
      typing.TextBreaksNoRule text → status ≡ Done)
  Gives (Some (SidesFile file)) status =
      OutOfMemoryOr f text_read_limit file status (λ text. HasMismatchReport text → status ≡ Done)
  Gives (Some (PointsFile file)) status =
      OutOfMemoryOr f text_read_limit file status (λ text. IsAcceptable text → status ≡ Done)
