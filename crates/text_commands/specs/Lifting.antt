-- What each status says of a text with lambdas and local functions that is lifted.
use Rattle.std.specs.Prelude.{◌≡◌, ℕ, List}
use Rattle.core_reader.specs.Readable.{IsReadable}
use Rattle.core_print.specs.Canonical.{canonical}
use Rattle.lambda_reader.specs.Tree.{Program}
use Rattle.lambda_reader.specs.Programs.{IsSourceText}
use Rattle.lambda_lift.specs.Rules.{IsUnbroken, IsFirstBroken}
use Rattle.lambda_lift.specs.Lifted.{lifted}
use Rattle.grin_io.specs.Changes.{SinkChange}
use Rattle.text_commands.specs.declared.status.Status.{Status}
use Rattle.text_commands.specs.Writing.{Writes}

-- the text breaks no rule, and these bytes are the canonical text of its lifted program, which is
-- readable
pub record IsLiftedText (text bytes : List ℕ) : Type 0 where
  pub source : Program
  pub unbroken : IsUnbroken text
  pub stands : IsSourceText text source
  pub readable : IsReadable (lifted source)
  pub is_canonical : bytes ≡ canonical (lifted source)

-- The status of a text that is lifted, and what became of the sink: puts of the pieces of the
-- lifted program's canonical text, and none at a refusal or for want of memory.
abbrev pub IsLiftOutcome : {K : Type 0} → SinkChange K → (text : List ℕ) → Status → Type 0
IsLiftOutcome o text status = Writes IsLiftedText IsFirstBroken o text status
