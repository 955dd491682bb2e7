-- Listings of texts.
use Rattle.std.proofs.Common.{ℕ, ◌<◌, List, length}
use mathlib.Core.Logic.{inl, inr}
use Rattle.core_reader.specs.Text.{IsFirstUnread}
use Rattle.command_line.specs.declared.command.Listing.{Listing}
use Rattle.command_line.specs.declared.command.Listing.TheVariants as listing
use Rattle.stage_names.specs.declared.PassName.{PassName}
use Rattle.grin_io.specs.Changes.{SinkChange}
use Rattle.text_commands.specs.declared.status.Status.{Status}
use Rattle.text_commands.specs.declared.status.Status.TheVariants.{Refused, OutOfMemory}
use Rattle.text_commands.specs.Text.{IsAcceptFailure}
use Rattle.text_commands.specs.Printing.{IsCanonicalText}
use Rattle.text_commands.proofs.Texts.{refused_long, accepted_short}
use Rattle.text_commands.proofs.Printed.{canonical_short, first_long}
use Rattle.text_commands.proofs.Written.{writes_as}
use Rattle.grin_driver.specs.Listing.{IsListing, IsListRefusal, IsListFailure, IsListOutcome}
use Rattle.grin_driver.specs.After.{IsListAfterOutcome}
use Rattle.grin_driver.proofs.Codes.{lists_code_long}

-- a text that is not accepted is not listed
pub not_listed : (text : List ℕ) (after : PassName) (status : Status) → IsAcceptFailure text status
    → IsListFailure text after status
not_listed text after (Refused k at) h = inl h
not_listed text after OutOfMemory h = h
not_listed text after _ h = absurd h

-- ---- texts that are too long

module _ {K : Type 0} (o : SinkChange K) (front text : List ℕ) (short : 1048576 < length front)
    (long : 1048576 < length text) where
  not_listed_long : (after : PassName) (k at : ℕ) → IsListRefusal front after k at
      → IsListRefusal text after k at
  not_listed_long after k at (inl h) = inl (refused_long front text short long k at h)
  not_listed_long after k at (inr h) = accepted_short front h.2.source h.2.program short
      h.2.accepted

  pub lists_long : (after : PassName) (status : Status) → IsListOutcome o front after status
      → IsListOutcome o text after status
  lists_long after status h =
      writes_as (λ text. IsListing text after) (λ text. IsListRefusal text after) o front text
      (λ bytes made. accepted_short front made.source made.program short made.accepted)
      (not_listed_long after) status h

  pub lists_after_long : (after : Listing) (status : Status)
      → IsListAfterOutcome o front after status → IsListAfterOutcome o text after status
  lists_after_long listing.Read status h =
      writes_as IsCanonicalText IsFirstUnread o front text
      (λ bytes. canonical_short front bytes short) (first_long front text short long) status h
  lists_after_long (listing.Stage stage) status h = lists_long stage status h
  lists_after_long listing.Code status h = lists_code_long o front text 1000000 1048576 short long
      status h
