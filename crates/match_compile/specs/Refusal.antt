-- What refusals name, and the first of some. A device of the proofs.
use Rattle.std.specs.Prelude.{ℕ, ◌==◌, nat_lt, Bool, ◌&&◌, ◌||◌, List, [], ◌∷◌, cond, Option, Some, None, if◌then◌else◌}
use Rattle.core_reader.specs.declared.refusal.ReadRefusal.{ReadRefusal}
use Rattle.core_reader.specs.declared.refusal.ReadRefusal.TheVariants as from
use Rattle.match_compile.specs.declared.refusal.MatchRefusal.{MatchRefusal}
use Rattle.match_compile.specs.declared.refusal.MatchRefusal.TheVariants.{BadByte, Syntax, NumberRange, TooDeep, TextTooLong, DuplicateFunction, DuplicateName, UnknownName, ArityDiffers, PatternArity, ReservedMatch, Memory}
use Rattle.limits.specs.Limits.{most_bytes}

-- the number of the broken rule
abbrev pub rule : MatchRefusal → ℕ
rule (BadByte at) = 1
rule (Syntax at) = 2
rule (NumberRange at) = 3
rule (TooDeep at) = 4
rule TextTooLong = 5
rule (DuplicateFunction at) = 12
rule (DuplicateName at) = 13
rule (UnknownName at) = 14
rule (ArityDiffers at) = 71
rule (PatternArity at) = 73
rule (ReservedMatch at) = 74
rule (Memory e) = 0

abbrev pub place : MatchRefusal → ℕ
place (BadByte at) = at
place (Syntax at) = at
place (NumberRange at) = at
place (TooDeep at) = at
place TextTooLong = most_bytes
place (DuplicateFunction at) = at
place (DuplicateName at) = at
place (UnknownName at) = at
place (ArityDiffers at) = at
place (PatternArity at) = at
place (ReservedMatch at) = at
place (Memory e) = 0

abbrev pub refusal_of_reading : ReadRefusal → MatchRefusal
refusal_of_reading (from.BadByte at) = BadByte at
refusal_of_reading (from.Syntax at) = Syntax at
refusal_of_reading (from.NumberRange at) = NumberRange at
refusal_of_reading (from.TooDeep at) = TooDeep at
refusal_of_reading from.TextTooLong = TextTooLong
refusal_of_reading (from.Memory e) = Memory e

-- by place, and at one place by number
abbrev pub precedes : MatchRefusal → MatchRefusal → Bool
precedes r q = nat_lt (place r) (place q) || ((place r == place q) && nat_lt (rule r) (rule q))

-- the first that was met, and one more
unfoldable pub earlier_refusal : Option MatchRefusal → MatchRefusal → Option MatchRefusal
earlier_refusal None r = Some r
earlier_refusal (Some f) r = if precedes r f then Some r else Some f

-- the first that was met, and then these
abbrev pub least_refusal : Option MatchRefusal → List MatchRefusal → Option MatchRefusal
least_refusal first [] = first
least_refusal first (r ∷ rs) = least_refusal (earlier_refusal first r) rs

-- a refusal where the test holds
abbrev pub refusal_if : Bool → MatchRefusal → List MatchRefusal
refusal_if b r = cond b (r ∷ []) []
