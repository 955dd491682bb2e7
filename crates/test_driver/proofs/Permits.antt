-- What the shelf in memory permits.
use Rattle.std.proofs.Common.{ℕ, List, Option, Some, None}
use Rattle.std.specs.Prelude.{IfSome}
use Rattle.command_line.specs.Commands.{CommandLine, RunFile, CheckFile, ListFile, BuildFile, CostsFile, TraceFile, ProfileFile, ExecImage, GenRun, LinkFiles, LiftFile, MatchFile, TypesFile, SidesFile, PointsFile}
use Rattle.grin_driver.specs.Answer.{HoldsOfNamedFiles}

-- it permits every name, so that of every command
pub any_command : (command : Option CommandLine) → IfSome command
    (HoldsOfNamedFiles (λ (name : List ℕ). Unit {0}))
any_command None = tt
any_command (Some (RunFile file cells stack steps stats)) = tt
any_command (Some (CheckFile file)) = tt
any_command (Some (ListFile file after)) = tt
any_command (Some (BuildFile file cells stack)) = tt
any_command (Some (CostsFile file cells stack)) = tt
any_command (Some (TraceFile file units)) = tt
any_command (Some (ProfileFile file)) = tt
any_command (Some (ExecImage image steps stats)) = tt
any_command (Some (GenRun seed size)) = tt
any_command (Some (LinkFiles files)) = λ file h. tt
any_command (Some (LiftFile file)) = tt
any_command (Some (MatchFile file)) = tt
any_command (Some (TypesFile file)) = tt
any_command (Some (SidesFile file)) = tt
any_command (Some (PointsFile file)) = tt
