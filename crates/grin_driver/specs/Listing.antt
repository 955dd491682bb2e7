-- What each status says of a text that is listed.
use Rattle.std.specs.Prelude.{◌≡◌, ◌≢◌, ◌⊎◌, ◌<◌, ℕ, List}
use Rattle.core_reader.specs.Tree as tree
use Rattle.arity_check.specs.Program.{Program}
use Rattle.grin_syntax.specs.Tree as grin
use Rattle.grin_syntax.specs.Listing as grin_listing
use Rattle.stage_names.specs.declared.PassName.{PassName}
use Rattle.stage_names.specs.declared.PassName.TheVariants.{Translate}
use Rattle.grin_stages.specs.Stage.{IsStage, Fits, HasExpandedSize}
use Rattle.grin_io.specs.Changes.{SinkChange}
use Rattle.text_commands.specs.declared.status.Status.{Status}
use Rattle.text_commands.specs.Text.{IsRefusedBy, IsAccepted}
use Rattle.text_commands.specs.Writing.{IsTransformFailure, Writes}
use Rattle.limits.specs.Limits.{largest_program}

-- The text breaks no rule, and these bytes are the listing of its program's stage. Rule 36 is one
-- of the rules behind the translation.
pub record IsListing (text : List ℕ) (after : PassName) (bytes : List ℕ) : Type 0 where
  pub source : tree.Program
  pub program : Program
  pub accepted : IsAccepted text source program
  pub stage : grin.Program
  pub made : IsStage program after stage
  pub fits : after ≢ Translate → Fits program
  pub is_listing : bytes ≡ grin_listing.listing stage

-- rule 36 is broken: the text breaks no rule before, and its program is too large once it is
-- inlined
pub record IsLargeText (text : List ℕ) (size : ℕ) : Type 0 where
  pub source : tree.Program
  pub program : Program
  pub accepted : IsAccepted text source program
  pub expanded : HasExpandedSize program size
  pub large : largest_program < size

-- which rule refuses a listing: the first one that the text breaks, else rule 36 where the stage is
-- behind the translation
abbrev pub IsListRefusal : (text : List ℕ) → (after : PassName) → (rule number : ℕ) → Type 0
IsListRefusal text after rule number =
    IsRefusedBy text rule number ⊎ ((rule ≡ 36) × (after ≢ Translate) × IsLargeText text number)

-- why a text has no listing
abbrev pub IsListFailure : (text : List ℕ) → (after : PassName) → Status → Type 0
IsListFailure text after status = IsTransformFailure (λ text. IsListRefusal text after) text status

-- The status of a text that is listed, and what became of the sink: puts of the listing's pieces,
-- and none at a refusal or for want of memory.
abbrev pub IsListOutcome : {K : Type 0} → SinkChange K → (text : List ℕ)
    → (after : PassName) → Status → Type 0
IsListOutcome o text after status =
    Writes (λ text. IsListing text after) (λ text. IsListRefusal text after) o text status
