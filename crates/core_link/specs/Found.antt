-- The first place of a broken rule, and of several rules.
use Rattle.std.specs.Prelude.{◌≡◌, ℕ, ◌<◌, ◌≤◌, ◌⊎◌, nat_lt, ◌||◌, Bool, true, false, List, [], ◌∷◌, Option, Some, None, is_some, if◌then◌else◌}
use Rattle.core_reader.specs.declared.syntax.Binder.{Binder}
use Rattle.arity_check.specs.declared.refusal.CheckRefusal.{CheckRefusal}
use Rattle.arity_check.specs.declared.refusal.CheckRefusal.TheVariants.{DuplicateConstructor, DuplicateFunction, UnknownName, ReservedName}
use Rattle.arity_check.specs.Known.{Known}
use Rattle.arity_check.specs.Faults.{with_member}
use Rattle.core_reader.specs.declared.refusal.ReadRefusal.{ReadRefusal}
use Rattle.core_reader.specs.declared.refusal.ReadRefusal.TheVariants as unread
use Rattle.core_link.specs.declared.refusal.LinkRefusal.{LinkRefusal}
use Rattle.core_link.specs.declared.refusal.LinkKind.TheVariants as kind
use Rattle.limits.specs.Limits.{most_bytes}

-- the first place at which something is broken, where it is broken at any
abbrev pub IsFirstPlaceWhere : (ℕ → Type 0) → Option ℕ → Type 0
IsFirstPlaceWhere P None = (at : ℕ) → P at → ⊥
IsFirstPlaceWhere P (Some at) = P at × ((at' : ℕ) → P at' → at ≤ at')

-- the first broken rule with its place: by place, and at one place by number
abbrev pub NamesFirstBrokenRule : (ℕ → ℕ → Type 0) → Option (ℕ × ℕ) → Type 0
NamesFirstBrokenRule P None = (k at : ℕ) → P k at → ⊥
NamesFirstBrokenRule P (Some f) =
    P f.0 f.1 × ((k at : ℕ) → P k at → (f.1 < at) ⊎ ((f.1 ≡ at) × (f.0 ≤ k)))

-- ---- devices of the proofs: what the code keeps of them

-- a rule of a larger number was found at a place, or nowhere
abbrev pub sooner : Option (ℕ × ℕ) → ℕ → Option ℕ → Option (ℕ × ℕ)
sooner found k None = found
sooner None k (Some at) = Some (k, at)
sooner (Some f) k (Some at) = if nat_lt at f.1 then Some (k, at) else Some f

abbrev pub earlier_place_if : Bool → Option ℕ → ℕ → Option ℕ
earlier_place_if false first at = first
earlier_place_if true None at = Some at
earlier_place_if true (Some a) at = if nat_lt at a then Some at else Some a

-- the first place of an item that passes a test
abbrev pub earliest : {X : Type 0} → (X → Bool) → (X → ℕ) → Option ℕ → List X → Option ℕ
earliest test place first [] = first
earliest test place first (x ∷ xs) =
    earliest test place (earlier_place_if (test x) first (place x)) xs

abbrev pub binder_place : Binder → ℕ
binder_place b = b.at

-- the place of a refusal that linking knows
abbrev pub place_of : Option CheckRefusal → Option ℕ
place_of (Some (DuplicateConstructor at)) = Some at
place_of (Some (DuplicateFunction at)) = Some at
place_of (Some (UnknownName at)) = Some at
place_of (Some (ReservedName at)) = Some at
place_of refusal = None

abbrev pub declared_by : Option (ℕ × ℕ) → Option ℕ → Bool
declared_by (Some f) fields = true
declared_by None fields = is_some fields

abbrev pub is_declared : Known → ℕ → Bool
is_declared k x = declared_by (k.function x) (k.fields x)

-- the refusal of the reading of the text of this number
abbrev pub read_refusal_in : ℕ → ReadRefusal → LinkRefusal
read_refusal_in file (unread.BadByte at) = record { file = file; kind = kind.BadByte at }
read_refusal_in file (unread.Syntax at) = record { file = file; kind = kind.Syntax at }
read_refusal_in file (unread.NumberRange at) = record { file = file; kind = kind.NumberRange at }
read_refusal_in file (unread.TooDeep at) = record { file = file; kind = kind.TooDeep at }
read_refusal_in file unread.TextTooLong = record { file = file; kind = kind.TextTooLong most_bytes }
read_refusal_in file (unread.Memory e) = record { file = 0; kind = kind.Memory e }

-- these names were seen too
abbrev pub with_names_seen : (ℕ → Bool) → List Binder → ℕ → Bool
with_names_seen seen [] = seen
with_names_seen seen (b ∷ bs) = with_names_seen (with_member b.name.0 seen) bs

-- the first place of a name that was seen before or is declared
abbrev pub first_repeated_name : (ℕ → Bool) → (ℕ → Bool) → Option ℕ → List Binder → Option ℕ
first_repeated_name declared seen first [] = first
first_repeated_name declared seen first (b ∷ bs) =
    first_repeated_name declared (with_member b.name.0 seen)
    (earlier_place_if (seen b.name.0 || declared b.name.0) first b.at) bs
