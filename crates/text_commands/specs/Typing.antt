-- What each status says of a text with types that is checked and written as Core, and of one of
-- which the two sides of types that do not fit are written.
use Rattle.std.specs.Prelude.{◌≡◌, ◌≢◌, ◌⊎◌, ℕ, List, [], ◌++◌, codes}
use Rattle.core_reader.specs.Readable.{IsReadable}
use Rattle.core_print.specs.Canonical.{canonical}
use Rattle.core_types.specs.Source.{Source, erased}
use Rattle.core_types.specs.Text.{IsSourceText}
use Rattle.core_types.specs.Refused.{TextBreaksNoRule, IsFirstBrokenText}
use Rattle.core_types.specs.Typing.{Typed}
use Rattle.core_types.specs.Sides.{IsMismatch}
use Rattle.core_types.specs.Shown.{shown_sides}
use Rattle.arity_check.specs.Program.{Program}
use Rattle.arity_check.specs.Normal.{IsNormalForm}
use Rattle.type_meaning.specs.Laws.{NeverStuck}
use Rattle.grin_io.specs.Changes.{SinkChange}
use Rattle.text_commands.specs.declared.status.Status.{Status}
use Rattle.text_commands.specs.Writing.{Writes}

-- The text breaks no rule, and these bytes are the canonical text of its program without types,
-- which is readable. Evaluation of that program never meets a value that no alternative accepts.
pub record IsTypedText (text bytes : List ℕ) : Type 0 where
  pub source : Source
  pub unbroken : TextBreaksNoRule text
  pub stands : IsSourceText text source
  pub readable : IsReadable (erased source)
  pub is_canonical : bytes ≡ canonical (erased source)
  pub program : Program
  pub normal : IsNormalForm (erased source) program
  pub never_stuck : NeverStuck program

-- The status of a text with types, and what became of the sink: puts of the pieces of the canonical
-- text of its program without types, and none at a refusal or for want of memory.
abbrev pub Types : {K : Type 0} → SinkChange K → (text : List ℕ) → Status → Type 0
Types o text status = Writes IsTypedText IsFirstBrokenText o text status

-- ---- the two sides

-- What is written of a text: nothing where it breaks no rule, and where its types do not fit the
-- line of the two sides, with the names of the text.
pub data IsMismatchReport (text bytes : List ℕ) : Type 0 where
  Fitting : TextBreaksNoRule text → bytes ≡ [] → IsMismatchReport text bytes
  Apart : {at : ℕ} {left right : Typed} (s : Source) → IsFirstBrokenText text 83 at
      → IsSourceText text s → IsMismatch s at left right
      → bytes ≡ shown_sides s.names left right ++ codes "\n" → IsMismatchReport text bytes

-- the text first breaks this rule, and not because its types do not fit
abbrev pub BreaksOtherRule : List ℕ → (rule number : ℕ) → Type 0
BreaksOtherRule text rule number = IsFirstBrokenText text rule number × (rule ≢ 83)

-- the text breaks no rule, or first the one on types that do not fit
abbrev pub HasMismatchReport : List ℕ → Type 0
HasMismatchReport text = TextBreaksNoRule text ⊎ ((at : ℕ) × IsFirstBrokenText text 83 at)

-- The status of a text with types, and what became of the sink: puts of the pieces of what is
-- written of it, and none at a refusal or for want of memory.
abbrev pub Sides : {K : Type 0} → SinkChange K → (text : List ℕ) → Status → Type 0
Sides o text status = Writes IsMismatchReport BreaksOtherRule o text status
