-- What each status says of a text whose image is put.
use Rattle.std.specs.Prelude.{ℕ, List}
use Rattle.grin_io.specs.Changes.{SinkChange}
use Rattle.text_commands.specs.declared.status.Status.{Status}
use Rattle.grin_driver.specs.Outcome.{IsRunRefusal, IsImageOf}
use Rattle.text_commands.specs.Writing.{Writes}

-- The status of a text whose image is put, with so many cells and bytes of stack, and what became
-- of the sink: puts of the image's pieces, and none at a refusal or for want of memory.
abbrev pub IsBuildOutcome :
    {K : Type 0} → SinkChange K → (text : List ℕ) → (cells stack : ℕ) → Status → Type 0
IsBuildOutcome o text cells stack status =
    Writes (λ text. IsImageOf text cells stack) IsRunRefusal o text status
