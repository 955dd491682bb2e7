-- What each status says of a text of which it is listed what the analysis finds.
use Rattle.std.specs.Prelude.{◌≡◌, ℕ, List}
use Rattle.core_reader.specs.Tree as tree
use Rattle.arity_check.specs.Program.{Program}
use Rattle.grin_translate.specs.Translation.{tr}
use Rattle.flow_system.specs.Solution.{Solution}
use Rattle.flow_listing.specs.Text.{points}
use Rattle.grin_stages.specs.Stage.{IsLeastOfTranslation}
use Rattle.grin_io.specs.Changes.{SinkChange}
use Rattle.text_commands.specs.declared.status.Status.{Status}
use Rattle.text_commands.specs.Text.{IsRefusedBy, IsAccepted}
use Rattle.text_commands.specs.Writing.{Writes}

-- these bytes are the text of the least solution of the program's translation
pub record IsLeastSolutionText (p : Program) (bytes : List ℕ) : Type 0 where
  pub solution : Solution
  pub least : IsLeastOfTranslation p solution
  pub is_text : bytes ≡ points (tr p) solution

-- the text breaks no rule, and these bytes are what the analysis finds of its program
pub record IsPointsText (text bytes : List ℕ) : Type 0 where
  pub source : tree.Program
  pub program : Program
  pub accepted : IsAccepted text source program
  pub found : IsLeastSolutionText program bytes

-- The status of a text, and what became of the sink: puts of the pieces of what is found, and none
-- at a refusal or for want of memory.
abbrev pub Points : {K : Type 0} → SinkChange K → (text : List ℕ) → Status → Type 0
Points o text status = Writes IsPointsText IsRefusedBy o text status
