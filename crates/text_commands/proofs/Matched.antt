-- Refusals of texts of equations, texts that are too long, and why a text that breaks no rule is
-- not refused.
use Rattle.std.proofs.Common.{◌≡◌, ℕ, ◌<◌, List, length, refl}
use Rattle.core_reader.specs.RulesOf as reading
use Rattle.match_compile.specs.Rules.{IsCause, IsUnbroken}
use Rattle.match_compile.specs.Refusal.{rule, place}
use Rattle.match_compile.specs.declared.refusal.MatchRefusal.{MatchRefusal}
use Rattle.match_compile.specs.declared.refusal.MatchRefusal.TheVariants.{BadByte, Syntax, NumberRange, TooDeep, TextTooLong, DuplicateFunction, DuplicateName, UnknownName, ArityDiffers, PatternArity, ReservedMatch, Memory}
use Rattle.text_commands.specs.Matching.{IsMatchedText, IsMatchRefusal, Unread, Uncompiled}
use Rattle.text_commands.proofs.Texts.{unread_long}

-- a refusal that is no want of memory names the first broken rule
pub match_caused : (text : List ℕ) (r : MatchRefusal) → (rule r ≡ 0 → ⊥) → IsCause text r
    → IsMatchRefusal text (rule r) (place r)
match_caused text (BadByte at) some h = Unread h
match_caused text (Syntax at) some h = Unread h
match_caused text (NumberRange at) some h = Unread h
match_caused text (TooDeep at) some h = Unread h
match_caused text TextTooLong some h = Unread h
match_caused text (DuplicateFunction at) some h = Uncompiled h
match_caused text (DuplicateName at) some h = Uncompiled h
match_caused text (UnknownName at) some h = Uncompiled h
match_caused text (ArityDiffers at) some h = Uncompiled h
match_caused text (PatternArity at) some h = Uncompiled h
match_caused text (ReservedMatch at) some h = Uncompiled h
match_caused text (Memory e) some h = absurd (some refl)

-- ---- texts that are too long

pub unmatched_long : (front text : List ℕ) → 1048576 < length front → 1048576 < length text
    → (k at : ℕ) → IsMatchRefusal front k at → IsMatchRefusal text k at
unmatched_long front text short long k at (Unread h)
    = Unread (unread_long front text short long k at h)
unmatched_long front text short long k at (Uncompiled h)
    = absurd (h.read 5 1048576 (reading.TextTooLong short))

pub matched_short : (text bytes : List ℕ) → 1048576 < length text → IsMatchedText text bytes → ⊥
matched_short text bytes long h = h.unbroken.read 5 1048576 (reading.TextTooLong long)

-- ---- texts that break no rule

pub unmatched_broken : (text : List ℕ) (k at : ℕ) → IsUnbroken text → IsMatchRefusal text k at → ⊥
unmatched_broken text k at u (Unread h) = u.read k at h.broken
unmatched_broken text k at u (Uncompiled h) = u.sound k at h.broken
