-- Canonical texts of texts that are too long.
use Rattle.std.proofs.Common.{ℕ, ◌<◌, List, length}
use Rattle.core_reader.specs.Text.{IsFirstUnread, TextTooLong}
use Rattle.text_commands.specs.Printing.{IsCanonicalText}
use Rattle.text_commands.proofs.Texts.{unread_long}

pub canonical_short : (text bytes : List ℕ) → 1048576 < length text → IsCanonicalText text bytes → ⊥
canonical_short text bytes long h = h.unbroken 5 1048576 (TextTooLong long)

pub first_long : (front text : List ℕ) → 1048576 < length front → 1048576 < length text → (k at : ℕ)
    → IsFirstUnread front k at → IsFirstUnread text k at
first_long front text short long k at h = unread_long front text short long k at h
