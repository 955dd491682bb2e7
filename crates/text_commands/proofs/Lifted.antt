-- Refusals of texts with lambdas, and texts that are too long.
use Rattle.std.proofs.Common.{◌≡◌, ℕ, ◌<◌, List, length, refl}
use Rattle.core_reader.specs.RulesOf as reading
use Rattle.lambda_lift.specs.Rules.{IsFirstBroken, Unread, Unlifted}
use Rattle.lambda_lift.specs.Refusal.{IsCause, rule, place}
use Rattle.lambda_lift.specs.declared.refusal.LiftRefusal.{LiftRefusal}
use Rattle.lambda_lift.specs.declared.refusal.LiftRefusal.TheVariants.{BadByte, Syntax, NumberRange, TooDeep, TextTooLong, TooManyParameters, ReservedLift, Memory}
use Rattle.text_commands.specs.Lifting.{IsLiftedText}
use Rattle.text_commands.proofs.Texts.{unread_long}

-- a refusal that is no want of memory names the first broken rule
pub lift_caused : (text : List ℕ) (r : LiftRefusal) → (rule r ≡ 0 → ⊥) → IsCause text r
    → IsFirstBroken text (rule r) (place r)
lift_caused text (BadByte at) some h = h
lift_caused text (Syntax at) some h = h
lift_caused text (NumberRange at) some h = h
lift_caused text (TooDeep at) some h = h
lift_caused text TextTooLong some h = h
lift_caused text (TooManyParameters at) some h = h
lift_caused text (ReservedLift at) some h = h
lift_caused text (Memory e) some h = absurd (some refl)

-- ---- texts that are too long

pub first_long : (front text : List ℕ) → 1048576 < length front → 1048576 < length text → (k at : ℕ)
    → IsFirstBroken front k at → IsFirstBroken text k at
first_long front text short long k at (Unread h) = Unread (unread_long front text short long k at h)
first_long front text short long k at (Unlifted read broken first)
    = absurd (read 5 1048576 (reading.TextTooLong short))

pub lifted_short : (text bytes : List ℕ) → 1048576 < length text → IsLiftedText text bytes → ⊥
lifted_short text bytes long h = h.unbroken.read 5 1048576 (reading.TextTooLong long)
