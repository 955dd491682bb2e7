-- Texts of which others are made: those that are too long, and what they give where nothing failed.
use Rattle.std.proofs.Common.{◌≡◌, ℕ, List, refl}
use mathlib.Core.Logic.{◌⊎◌, inl, inr}
use Rattle.grin_io.specs.Changes.{SinkChange}
use Rattle.grin_io.specs.Causes.{CountGrew}
use Rattle.text_commands.specs.declared.status.Status.{Status}
use Rattle.text_commands.specs.declared.status.Status.TheVariants.{Done, Refused, OutOfMemory, WriteFault}
use Rattle.text_commands.specs.Writing.{Writes}

module _ {Source : Type 0} (IsMade : Source → List ℕ → Type 0)
    (IsRefused : Source → (rule number : ℕ) → Type 0) {K : Type 0} (o : SinkChange K) where
  -- of a source nothing is made, and another is refused as it is
  pub writes_as : (source source' : Source) → ((bytes : List ℕ) → IsMade source bytes → ⊥)
      → ((rule number : ℕ) → IsRefused source rule number → IsRefused source' rule number)
      → (status : Status) → Writes IsMade IsRefused o source status
      → Writes IsMade IsRefused o source' status
  writes_as source source' unmade refused (Refused rule number) h = (refused rule number h.0, h.1)
  writes_as source source' unmade refused OutOfMemory h = h
  writes_as source source' unmade refused Done h = absurd (unmade h.0 h.1)
  writes_as source source' unmade refused WriteFault h = absurd (unmade h.0 h.1)
  writes_as source source' unmade refused _ h = absurd h

  -- where no put failed, a source that no rule refuses is written
  pub writes_gives : (CountGrew (o.faults o.old) (o.faults o.new) → ⊥)
      → {Unbroken : Type 0} (source : Source) →
      ((rule number : ℕ) → Unbroken → IsRefused source rule number → ⊥)
      → (status : Status) → Writes IsMade IsRefused o source status → (status ≡ OutOfMemory)
      ⊎ (Unbroken → status ≡ Done)
  writes_gives well source kept Done h = inr (λ u. refl)
  writes_gives well source kept WriteFault h = absurd (well h.2.2.rose)
  writes_gives well source kept (Refused rule number) h = inr (λ u. absurd (kept rule number u h.0))
  writes_gives well source kept OutOfMemory h = inl refl
  writes_gives well source kept _ h = absurd h
