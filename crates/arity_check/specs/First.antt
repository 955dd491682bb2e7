-- Which broken rule a refusal names.
use Rattle.std.specs.Prelude.{Option, Some, None}
use Rattle.core_reader.specs.Tree.{Program}
use Rattle.arity_check.specs.declared.refusal.CheckRefusal.{CheckRefusal}
use Rattle.arity_check.specs.declared.refusal.CheckRefusal.TheVariants.{Memory}
use Rattle.arity_check.specs.Order.{Ranks}
use Rattle.arity_check.specs.Accepted.{IsFirstBroken, BreaksNoRankedRule, IsFirstRankedFault}
use Rattle.arity_check.specs.Refusal.{rule, number}

-- a refusal names the first broken rule with its place; want of memory has no cause in the program
abbrev pub IsCause : Program → CheckRefusal → Type 0
IsCause p (Memory e) = Unit {0}
IsCause p r = IsFirstBroken p (rule r) (number r)

-- the first refusal of a program of those that count, if there is one
abbrev pub IsFirstRefusal : Ranks → Program → Option CheckRefusal → Type 0
IsFirstRefusal ranks p None = BreaksNoRankedRule ranks p
IsFirstRefusal ranks p (Some r) = IsFirstRankedFault ranks p (rule r) (number r)
