-- What each status says of a text of pattern equations that is compiled to Core.
use Rattle.std.specs.Prelude.{◌≡◌, ℕ, List}
use Rattle.core_reader.specs.declared.dialect.Dialect.TheVariants.{Core}
use Rattle.core_reader.specs.Readable.{IsReadable}
use Rattle.core_reader.specs.RulesOf.{IsFirstUnread}
use Rattle.core_print.specs.Canonical.{canonical}
use Rattle.match_compile.specs.Source.{Source}
use Rattle.match_compile.specs.Grammar.{IsSource, IsSourceText}
use Rattle.match_compile.specs.Rules.{IsUnbroken, IsFirstBroken}
use Rattle.match_compile.specs.Translated.{translated}
use Rattle.grin_io.specs.Changes.{SinkChange}
use Rattle.text_commands.specs.declared.status.Status.{Status}
use Rattle.text_commands.specs.Writing.{Writes}

-- which rule a text breaks first, and where: one of reading, else one of its equations
pub data IsMatchRefusal (text : List ℕ) : (rule number : ℕ) → Type 0 where
  Unread : {rule at : ℕ} → IsFirstUnread Core IsSource text rule at → IsMatchRefusal text rule at
  Uncompiled : {rule at : ℕ} → IsFirstBroken text rule at → IsMatchRefusal text rule at

-- the text breaks no rule, and these bytes are the canonical text of the program that its equations
-- become, which is readable
pub record IsMatchedText (text bytes : List ℕ) : Type 0 where
  pub source : Source
  pub unbroken : IsUnbroken text
  pub stands : IsSourceText text source
  pub readable : IsReadable (translated source)
  pub is_canonical : bytes ≡ canonical (translated source)

-- The status of a text of equations that is compiled, and what became of the sink: puts of the
-- pieces of the program's canonical text, and none at a refusal or for want of memory.
abbrev pub IsMatchOutcome : {K : Type 0} → SinkChange K → (text : List ℕ) → Status → Type 0
IsMatchOutcome o text status = Writes IsMatchedText IsMatchRefusal o text status
