-- A text that cannot be read breaks none of the rules on types.
use Rattle.std.proofs.Common.{◌≡◌, ℕ, List, arith}
use Rattle.core_reader.specs.RulesOf as unread
use Rattle.core_types.specs.Text.{IsReadingFault}

pub not_unread : (text : List ℕ) (k at : ℕ) → k ≡ 83 → IsReadingFault text k at → ⊥
not_unread text k at e (unread.BadByte a h) = absurd (omega (arith, e))
not_unread text k at e (unread.Syntax a h) = absurd (omega (arith, e))
not_unread text k at e (unread.NumberRange a h) = absurd (omega (arith, e))
not_unread text k at e (unread.TooDeep a h) = absurd (omega (arith, e))
not_unread text k at e (unread.TextTooLong h) = absurd (omega (arith, e))
