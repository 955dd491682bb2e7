-- What each status says of the words of a command line.
use Rattle.std.specs.Prelude.{◌≡◌, ℕ, List, Option, Some, None}
use Rattle.command_line.specs.Commands.{CommandLine, RunFile, CheckFile, ListFile, BuildFile, CostsFile, TraceFile, ProfileFile, ExecImage, GenRun, LinkFiles, LiftFile, MatchFile, TypesFile, SidesFile, PointsFile}
use Rattle.grin_io.specs.Changes.{ShelfChange, SourceChange, SinkChange}
use Rattle.text_commands.specs.declared.status.Status.{Status}
use Rattle.text_commands.specs.declared.status.Status.TheVariants.{Usage}
use Rattle.text_commands.specs.Reading.{HoldsOfEachFile}
use Rattle.text_commands.specs.Operands.{HoldsOfOperandFile, HoldsOfOperandFiles, text_read_limit}
use Rattle.grin_compile.specs.Limits.{SizesAreInRange}
use Rattle.grin_driver.specs.Outcome.{Outcome}
use Rattle.text_commands.specs.Checking.{IsCheckOutcome}
use Rattle.grin_driver.specs.After.{IsListAfterOutcome}
use Rattle.grin_driver.specs.Building.{IsBuildOutcome}
use Rattle.grin_driver.specs.Needs.{IsNeedsOutcome}
use Rattle.grin_driver.specs.Tracing.{IsTraceOutcome}
use Rattle.grin_driver.specs.Profiling.{IsProfileOutcome}
use Rattle.grin_driver.specs.Execution.{IsUntouched, Execution}
use Rattle.text_commands.specs.Linking.{IsLinkOutcome}
use Rattle.text_commands.specs.Lifting.{IsLiftOutcome}
use Rattle.text_commands.specs.Matching.{IsMatchOutcome}
use Rattle.text_commands.specs.Typing.{Types, Sides}
use Rattle.grin_driver.specs.Pointing.{Points}
use Rattle.generator.specs.Generated.{generated}
use Rattle.grin_driver.specs.Generating.{Generates}

-- the most bytes that are taken of an image: one more than those of the longest one
abbrev pub image_read_limit : ℕ
image_read_limit = 1342177281

-- this holds of the files that a command names
abbrev pub HoldsOfNamedFiles : (List ℕ → Type 0) → CommandLine → Type 0
HoldsOfNamedFiles Holds (RunFile file cells stack steps stats) = Holds file
HoldsOfNamedFiles Holds (CheckFile file) = Holds file
HoldsOfNamedFiles Holds (ListFile file after) = Holds file
HoldsOfNamedFiles Holds (BuildFile file cells stack) = Holds file
HoldsOfNamedFiles Holds (CostsFile file cells stack) = Holds file
HoldsOfNamedFiles Holds (TraceFile file units) = Holds file
HoldsOfNamedFiles Holds (ProfileFile file) = Holds file
HoldsOfNamedFiles Holds (ExecImage image steps stats) = Holds image
HoldsOfNamedFiles Holds (GenRun seed size) = Unit {0}
HoldsOfNamedFiles Holds (LinkFiles files) = HoldsOfEachFile Holds files
HoldsOfNamedFiles Holds (LiftFile file) = Holds file
HoldsOfNamedFiles Holds (MatchFile file) = Holds file
HoldsOfNamedFiles Holds (TypesFile file) = Holds file
HoldsOfNamedFiles Holds (SidesFile file) = Holds file
HoldsOfNamedFiles Holds (PointsFile file) = Holds file

-- what `run`, `build` and `costs` ask of an image is within the limits
abbrev pub SizesAreWithinLimits : CommandLine → Type 0
SizesAreWithinLimits (RunFile file cells stack steps stats) = SizesAreInRange cells stack
SizesAreWithinLimits (BuildFile file cells stack) = SizesAreInRange cells stack
SizesAreWithinLimits (CostsFile file cells stack) = SizesAreInRange cells stack
SizesAreWithinLimits _ = Unit {0}

-- what a command line did to a shelf, an input and an output
module _ {F I K : Type 0} (f : ShelfChange F) (i : SourceChange I) (o : SinkChange K) where
  -- nothing was touched
  abbrev pub IsUsage : Status → Type 0
  IsUsage status = (status ≡ Usage) × (f.new ≡ f.old) × (i.new ≡ i.old) × (o.new ≡ o.old)

  -- the status of a command over the text that it names, which reads no input
  abbrev pub FromText : (file : List ℕ) → (outcome : List ℕ → Status → Type 0) → Status → Type 0
  FromText file outcome status =
      HoldsOfOperandFile f text_read_limit (o.new ≡ o.old) file outcome status × (i.new ≡ i.old)

  -- The status of a command line: Usage exactly where its words are no command. Only `run` and
  -- `exec` read the input.
  abbrev pub Answers : Option CommandLine → Status → Type 0
  Answers None status = IsUsage status
  Answers (Some (RunFile file cells stack steps stats)) status =
      HoldsOfOperandFile f text_read_limit (IsUntouched i o) file
      (λ text status. Outcome i o text cells stack steps status) status
  Answers (Some (CheckFile file)) status =
      FromText file (λ text status. IsCheckOutcome o text status) status
  Answers (Some (ListFile file after)) status =
      FromText file (λ text status. IsListAfterOutcome o text after status) status
  Answers (Some (BuildFile file cells stack)) status =
      FromText file (λ text status. IsBuildOutcome o text cells stack status) status
  Answers (Some (CostsFile file cells stack)) status =
      FromText file (λ text status. IsNeedsOutcome o text cells stack status) status
  Answers (Some (TraceFile file units)) status =
      FromText file (λ text status. IsTraceOutcome o text units status) status
  Answers (Some (ProfileFile file)) status =
      FromText file (λ text status. IsProfileOutcome o text status) status
  Answers (Some (ExecImage image steps stats)) status =
      HoldsOfOperandFile f image_read_limit (IsUntouched i o) image
      (λ bytes status. Execution i o bytes steps status) status
  Answers (Some (GenRun seed size)) status =
      Generates o (generated seed size) status × (f.new ≡ f.old) × (i.new ≡ i.old)
  Answers (Some (LinkFiles files)) status =
      HoldsOfOperandFiles f text_read_limit (o.new ≡ o.old) files
      (λ texts status. IsLinkOutcome o texts status) status
      × (i.new ≡ i.old)
  Answers (Some (LiftFile file)) status =
      FromText file (λ text status. IsLiftOutcome o text status) status
  Answers (Some (MatchFile file)) status =
      FromText file (λ text status. IsMatchOutcome o text status) status
  Answers (Some (TypesFile file)) status =
      FromText file (λ text status. Types o text status) status
  Answers (Some (SidesFile file)) status =
      FromText file (λ text status. Sides o text status) status
  Answers (Some (PointsFile file)) status =
      FromText file (λ text status. Points o text status) status
