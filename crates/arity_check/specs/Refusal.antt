-- What refusals name, and the first of some.
use Rattle.std.specs.Prelude.{ℕ, ◌==◌, Bool, true, false, nat_lt, ◌&&◌, ◌||◌, List, [], ◌∷◌, Option, Some, None, if◌then◌else◌}
use Rattle.arity_check.specs.declared.refusal.CheckRefusal.{CheckRefusal}
use Rattle.arity_check.specs.declared.refusal.CheckRefusal.TheVariants.{DuplicateConstructor, DuplicateFunction, DuplicateName, UnknownName, ConstructorArity, DefaultNotLast, DuplicateAlternative, MixedAlternatives, ReservedName, PrimitiveArity, NoMain, MainHasParameters, NoListConstructors, TooManyFunctions, TooManyConstructors, TooManyParameters, TooManyFields, CoreTooLarge, Memory}
use Rattle.arity_check.specs.declared.order.Order.{Order}
use Rattle.arity_check.specs.declared.order.First.{First}
use Rattle.arity_check.specs.Order.{ranks_of_order}

-- the number of the broken rule
abbrev pub rule : CheckRefusal → ℕ
rule (DuplicateConstructor at) = 11
rule (DuplicateFunction at) = 12
rule (DuplicateName at) = 13
rule (UnknownName at) = 14
rule (ConstructorArity at) = 15
rule (DefaultNotLast at) = 16
rule (DuplicateAlternative at) = 17
rule (MixedAlternatives at) = 18
rule (ReservedName at) = 22
rule (PrimitiveArity at) = 23
rule NoMain = 19
rule (MainHasParameters at) = 20
rule NoListConstructors = 21
rule (TooManyFunctions at) = 31
rule (TooManyConstructors at) = 32
rule (TooManyParameters at) = 33
rule (TooManyFields at) = 34
rule (CoreTooLarge size) = 35
rule (Memory e) = 0

-- the number that is shown with it: the place, the size for rule 35, or 0 where there is neither
abbrev pub number : CheckRefusal → ℕ
number (DuplicateConstructor at) = at
number (DuplicateFunction at) = at
number (DuplicateName at) = at
number (UnknownName at) = at
number (ConstructorArity at) = at
number (DefaultNotLast at) = at
number (DuplicateAlternative at) = at
number (MixedAlternatives at) = at
number (ReservedName at) = at
number (PrimitiveArity at) = at
number NoMain = 0
number (MainHasParameters at) = at
number NoListConstructors = 0
number (TooManyFunctions at) = at
number (TooManyConstructors at) = at
number (TooManyParameters at) = at
number (TooManyFields at) = at
number (CoreTooLarge size) = size
number (Memory e) = 0

-- the rank of a refusal that counts
abbrev pub rank_of : Order → CheckRefusal → Option (ℕ × ℕ × ℕ)
rank_of order r = ranks_of_order order (rule r) (number r)

abbrev pub before : ℕ × ℕ × ℕ → ℕ × ℕ × ℕ → Bool
before a b =
    nat_lt a.0 b.0 || ((a.0 == b.0) && (nat_lt a.1 b.1 || ((a.1 == b.1) && nat_lt a.2 b.2)))

-- what has a rank comes before what has a later one or none
abbrev pub precedes : Option (ℕ × ℕ × ℕ) → Option (ℕ × ℕ × ℕ) → Bool
precedes None b = false
precedes (Some a) None = true
precedes (Some a) (Some b) = before a b

abbrev pub rank_of_first : Order → Option CheckRefusal → Option (ℕ × ℕ × ℕ)
rank_of_first order None = None
rank_of_first order (Some r) = rank_of order r

-- the first that was met, and one more
unfoldable pub earlier_refusal : First → CheckRefusal → First
earlier_refusal f r =
    if precedes (rank_of f.order r) (rank_of_first f.order f.refusal)
    then record { order = f.order; refusal = Some r }
    else f

-- the first that was met, and then these
abbrev pub least_refusal : First → List CheckRefusal → First
least_refusal f [] = f
least_refusal f (r ∷ rs) = least_refusal (earlier_refusal f r) rs
