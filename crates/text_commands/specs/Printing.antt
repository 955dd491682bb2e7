-- What each status says of a text whose canonical text is put.
use Rattle.std.specs.Prelude.{◌≡◌, ℕ, List}
use Rattle.core_reader.specs.Tree as tree
use Rattle.core_reader.specs.Text.{IsText, IsFirstUnread, IsUnbroken}
use Rattle.core_print.specs.Canonical.{canonical}
use Rattle.grin_io.specs.Changes.{SinkChange}
use Rattle.text_commands.specs.declared.status.Status.{Status}
use Rattle.text_commands.specs.Writing.{Writes}

-- the text breaks none of the rules of reading, and these bytes are the canonical text of its
-- program
pub record IsCanonicalText (text bytes : List ℕ) : Type 0 where
  pub source : tree.Program
  pub unbroken : IsUnbroken text
  pub stands : IsText text source
  pub is_canonical : bytes ≡ canonical source

-- The status of a text whose canonical text is put, and what became of the sink: puts of that
-- text's pieces, and none at a refusal or for want of memory.
abbrev pub IsPrintOutcome : {K : Type 0} → SinkChange K → (text : List ℕ) → Status → Type 0
IsPrintOutcome o text status = Writes IsCanonicalText IsFirstUnread o text status
