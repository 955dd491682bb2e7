-- What the refusals of lifting name.
use Rattle.std.specs.Prelude.{ℕ, ◌≤◌, List}
use Rattle.core_reader.specs.declared.refusal.ReadRefusal.{ReadRefusal}
use Rattle.core_reader.specs.declared.refusal.ReadRefusal.TheVariants as from
use Rattle.lambda_lift.specs.declared.refusal.LiftRefusal.{LiftRefusal}
use Rattle.lambda_lift.specs.declared.refusal.LiftRefusal.TheVariants.{BadByte, Syntax, NumberRange, TooDeep, TextTooLong, TooManyParameters, ReservedLift, Memory}
use Rattle.lambda_reader.specs.Tree.{Program}
use Rattle.lambda_lift.specs.Rules.{IsFirstBroken, IsTooBroad}
use Rattle.limits.specs.Limits.{most_bytes}

-- the number of the broken rule
abbrev pub rule : LiftRefusal → ℕ
rule (BadByte at) = 1
rule (Syntax at) = 2
rule (NumberRange at) = 3
rule (TooDeep at) = 4
rule TextTooLong = 5
rule (TooManyParameters at) = 61
rule (ReservedLift at) = 62
rule (Memory e) = 0

abbrev pub place : LiftRefusal → ℕ
place (BadByte at) = at
place (Syntax at) = at
place (NumberRange at) = at
place (TooDeep at) = at
place TextTooLong = most_bytes
place (TooManyParameters at) = at
place (ReservedLift at) = at
place (Memory e) = 0

abbrev pub refusal_of_reading : ReadRefusal → LiftRefusal
refusal_of_reading (from.BadByte at) = BadByte at
refusal_of_reading (from.Syntax at) = Syntax at
refusal_of_reading (from.NumberRange at) = NumberRange at
refusal_of_reading (from.TooDeep at) = TooDeep at
refusal_of_reading from.TextTooLong = TextTooLong
refusal_of_reading (from.Memory e) = Memory e

-- the rule and the place that a refusal names
abbrev pub IsCause : List ℕ → LiftRefusal → Type 0
IsCause text (BadByte at) = IsFirstBroken text 1 at
IsCause text (Syntax at) = IsFirstBroken text 2 at
IsCause text (NumberRange at) = IsFirstBroken text 3 at
IsCause text (TooDeep at) = IsFirstBroken text 4 at
IsCause text TextTooLong = IsFirstBroken text 5 most_bytes
IsCause text (TooManyParameters at) = IsFirstBroken text 61 at
IsCause text (ReservedLift at) = IsFirstBroken text 62 at
IsCause text (Memory e) = Unit {0}

-- Rule 61 is broken at this place of a tree, and at none before it.
pub record IsFirstTooBroad (c : Program) (at : ℕ) : Type 0 where
  pub broken : IsTooBroad c at
  pub first : (at' : ℕ) → IsTooBroad c at' → at ≤ at'

-- Of a tree nothing else can be refused.
abbrev pub IsTreeCause : Program → LiftRefusal → Type 0
IsTreeCause c (BadByte at) = ⊥
IsTreeCause c (Syntax at) = ⊥
IsTreeCause c (NumberRange at) = ⊥
IsTreeCause c (TooDeep at) = ⊥
IsTreeCause c TextTooLong = ⊥
IsTreeCause c (TooManyParameters at) = IsFirstTooBroad c at
IsTreeCause c (ReservedLift at) = ⊥
IsTreeCause c (Memory e) = Unit {0}
