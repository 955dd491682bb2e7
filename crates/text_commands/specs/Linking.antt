-- What each status says of texts of modules that are linked.
use Rattle.std.specs.Prelude.{◌≡◌, ℕ, ◌+◌, ◌*◌, List}
use Rattle.core_reader.specs.Tree.{Program}
use Rattle.core_reader.specs.Readable.{IsReadable}
use Rattle.core_print.specs.Canonical.{canonical}
use Rattle.core_link.specs.Rules.{IsUnbroken, IsFirstBroken}
use Rattle.core_link.specs.Union.{IsLinked}
use Rattle.grin_io.specs.Changes.{SinkChange}
use Rattle.text_commands.specs.declared.status.Status.{Status}
use Rattle.text_commands.specs.Writing.{Writes}

-- the texts break no rule, and these bytes are the canonical text of the program that they are
-- together, which is readable
pub record IsLinkedText (texts : List (List ℕ)) (bytes : List ℕ) : Type 0 where
  pub program : Program
  pub unbroken : IsUnbroken texts
  pub linked : IsLinked texts program
  pub readable : IsReadable program
  pub is_canonical : bytes ≡ canonical program

-- This rule is the first that is broken. The number tells the file, counted from 0, and the place
-- in it.
abbrev pub IsLinkRefusal : (texts : List (List ℕ)) → (rule number : ℕ) → Type 0
IsLinkRefusal texts rule number =
    (file at : ℕ) × IsFirstBroken texts rule file at × (number ≡ 2097152 * file + at)

-- The status of texts that are linked, and what became of the sink: puts of the pieces of the
-- program's canonical text, and none at a refusal or for want of memory.
abbrev pub IsLinkOutcome : {K : Type 0} → SinkChange K → (texts : List (List ℕ)) → Status → Type 0
IsLinkOutcome o texts status = Writes IsLinkedText IsLinkRefusal o texts status
