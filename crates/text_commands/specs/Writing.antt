-- What each status says of something of which a text is made, which is put.
use Rattle.std.specs.Prelude.{◌≡◌, ℕ, ◌<◌, List, length}
use Rattle.grin_io.specs.Changes.{SinkChange, TookExactly, PutFailed}
use Rattle.text_commands.specs.declared.status.Status.{Status}
use Rattle.text_commands.specs.declared.status.Status.TheVariants.{Done, Refused, OutOfMemory, WriteFault}
use Rattle.text_commands.specs.Putting.{HoldsOfPieces}
use Rattle.limits.specs.Limits.{most_bytes}

-- why nothing is made of a source: a rule that refuses it, at a number, or want of memory
abbrev pub IsTransformFailure :
    {Source : Type 0} → (IsRefused : Source → (rule number : ℕ) → Type 0) → Source → Status → Type 0
IsTransformFailure IsRefused source (Refused rule number) = IsRefused source rule number
IsTransformFailure IsRefused source OutOfMemory = Unit {0}
IsTransformFailure IsRefused source _ = ⊥

-- The status of a source, and what became of the sink: puts of the pieces of the bytes that are
-- made of it, and none at a refusal or for want of memory.
module _ {Source : Type 0} (IsMade : Source → (bytes : List ℕ) → Type 0)
    (IsRefused : Source → (rule number : ℕ) → Type 0) where
  abbrev pub Writes : {K : Type 0} → SinkChange K → Source → Status → Type 0
  Writes o source Done =
      (bytes : List ℕ) × IsMade source bytes × HoldsOfPieces bytes (TookExactly o)
  Writes o source WriteFault =
      (bytes : List ℕ) × IsMade source bytes × HoldsOfPieces bytes (PutFailed o)
  Writes o source (Refused rule number) = IsRefused source rule number × (o.new ≡ o.old)
  Writes o source OutOfMemory = o.new ≡ o.old
  Writes o source _ = ⊥

-- Of a text that is too long nothing is made, and what refuses one refuses each. So it is enough to
-- have read a front of it that is too long.
pub record RefusesLongTexts (IsMade : (text bytes : List ℕ) → Type 0)
    (IsRefused : (text : List ℕ) → (rule number : ℕ) → Type 0) : Type 0 where
  pub unmade : (text bytes : List ℕ) → most_bytes < length text → IsMade text bytes → ⊥
  pub refused : (front text : List ℕ) → most_bytes < length front → most_bytes < length text
      → (rule number : ℕ) → IsRefused front rule number → IsRefused text rule number
