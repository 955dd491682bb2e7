-- Which broken rule a refusal names, and when a text breaks none.
use Rattle.std.specs.Prelude.{◌≡◌, ℕ, List, Option, Some, None}
use Rattle.core_reader.specs.declared.refusal.ReadRefusal.{ReadRefusal}
use Rattle.core_reader.specs.declared.refusal.ReadRefusal.TheVariants as unread
use Rattle.core_reader.specs.declared.syntax.Core.{Core}
use Rattle.core_reader.specs.Tree.{program as program_of}
use Rattle.core_reader.specs.Readable.{IsReadable}
use Rattle.arity_check.specs.Refusal as core
use Rattle.core_types.specs.declared.refusal.TypeFault.{TypeFault}
use Rattle.core_types.specs.declared.refusal.TypeFault.TheVariants as fault
use Rattle.core_types.specs.declared.refusal.TypeRefusal.{TypeRefusal}
use Rattle.core_types.specs.declared.refusal.TypeRefusal.TheVariants as refusal
use Rattle.core_types.specs.declared.sides.Ty.{Ty}
use Rattle.core_types.specs.declared.rules.Verdict.{Verdict}
use Rattle.core_types.specs.declared.rules.Verdict.TheVariants as verdict
use Rattle.core_types.specs.Source.{Source, erased}
use Rattle.core_types.specs.Text.{IsSourceText, BreaksNoReadingRule, IsFirstReadingFault}
use Rattle.core_types.specs.Typing.{Substitution, Solves, constraints}
use Rattle.core_types.specs.Rules.{IsFirstBroken, IsUnbroken}
use Rattle.core_types.specs.Building.{IsMismatchOf}
use Rattle.core_types.specs.Sides.{type_of, IsMismatch}
use Rattle.limits.specs.Limits.{most_bytes}

abbrev pub unread_rule : ReadRefusal → ℕ
unread_rule (unread.BadByte at) = 1
unread_rule (unread.Syntax at) = 2
unread_rule (unread.NumberRange at) = 3
unread_rule (unread.TooDeep at) = 4
unread_rule unread.TextTooLong = 5
unread_rule (unread.Memory e) = 0

abbrev pub unread_place : ReadRefusal → ℕ
unread_place (unread.BadByte at) = at
unread_place (unread.Syntax at) = at
unread_place (unread.NumberRange at) = at
unread_place (unread.TooDeep at) = at
unread_place unread.TextTooLong = most_bytes
unread_place (unread.Memory e) = 0

-- the number of the broken rule
abbrev pub rule : TypeFault → ℕ
rule (fault.Unread e) = unread_rule e
rule (fault.Unchecked r) = core.rule r
rule (fault.DuplicateType at) = 81
rule (fault.UnknownType at) = 82
rule (fault.Mismatch at) = 83
rule (fault.NotExhaustive at) = 84
rule (fault.BadSignature at) = 85
rule fault.ListType = 86
rule (fault.Memory e) = 0

-- the number that is shown with it: the place, or the size for rule 35
abbrev pub number : TypeFault → ℕ
number (fault.Unread e) = unread_place e
number (fault.Unchecked r) = core.number r
number (fault.DuplicateType at) = at
number (fault.UnknownType at) = at
number (fault.Mismatch at) = at
number (fault.NotExhaustive at) = at
number (fault.BadSignature at) = at
number fault.ListType = 0
number (fault.Memory e) = 0

-- the fault of a text that cannot be read
abbrev pub unread_fault : ReadRefusal → TypeFault
unread_fault (unread.Memory e) = fault.Memory e
unread_fault e = fault.Unread e

-- the refusal names the first rule that the program breaks
abbrev pub NamesFirstBrokenRule : Source → TypeFault → Type 0
NamesFirstBrokenRule s f = IsFirstBroken s (rule f) (number f)

-- the place at which types do not fit, where that is the fault
abbrev pub mismatch_in : TypeFault → Option ℕ
mismatch_in (fault.Unread e) = None
mismatch_in (fault.Unchecked r) = None
mismatch_in (fault.DuplicateType at) = None
mismatch_in (fault.UnknownType at) = None
mismatch_in (fault.Mismatch at) = Some at
mismatch_in (fault.NotExhaustive at) = None
mismatch_in (fault.BadSignature at) = None
mismatch_in fault.ListType = None
mismatch_in (fault.Memory e) = None

-- the first rule that the program breaks; or it breaks none, and its constraints have a solution
abbrev pub IsVerdict : Source → Verdict → Type 0
IsVerdict s verdict.Unbroken = IsUnbroken s × ((σ : Substitution) × Solves σ (constraints s))
IsVerdict s (verdict.Broken f) = NamesFirstBrokenRule s f × (mismatch_in f ≡ None)
IsVerdict s (verdict.Mismatch m) = IsFirstBroken s 83 m.at × IsMismatchOf s m

-- Rule k is broken at this place, and no rule is broken before it: what cannot be read comes first.
pub data IsFirstBrokenText (text : List ℕ) : (k at : ℕ) → Type 0 where
  Unread : {k at : ℕ} → IsFirstReadingFault text k at → IsFirstBrokenText text k at
  Untyped : {k at : ℕ} → BreaksNoReadingRule text → (s : Source)
      → IsSourceText text s → IsFirstBroken s k at
      → IsFirstBrokenText text k at

-- The refusal names the first rule that the text breaks. Want of memory has no cause in the text.
abbrev pub IsCause : List ℕ → TypeFault → Type 0
IsCause text (fault.Memory e) = Unit {0}
IsCause text f = IsFirstBrokenText text (rule f) (number f)

-- The text breaks no rule.
abbrev pub TextBreaksNoRule : List ℕ → Type 0
TextBreaksNoRule text =
    BreaksNoReadingRule text × ((s : Source) → IsSourceText text s → IsUnbroken s)

-- At this place of the text the types of a constraint do not fit, and these are its two sides, with
-- the names of the text.
abbrev pub AreSidesAt : List ℕ → ℕ → Ty → Ty → List (List ℕ) → Type 0
AreSidesAt text at left right names =
    (s : Source) × IsSourceText text s × IsMismatch s at (type_of left) (type_of right)
    × (names ≡ s.names)

-- The refusal names the first rule that the text breaks; where types do not fit, with the sides.
abbrev pub IsRefusal : List ℕ → TypeRefusal → Type 0
IsRefusal text (refusal.Mismatch at left right names) =
    IsFirstBrokenText text 83 at × AreSidesAt text at left right names
IsRefusal text (refusal.Fault f) = IsCause text f × (mismatch_in f ≡ None)

-- The refusal names the first rule that the program breaks. Want of memory has no cause in it.
abbrev pub IsSourceCause : Source → TypeFault → Type 0
IsSourceCause s (fault.Memory e) = Unit {0}
IsSourceCause s f = NamesFirstBrokenRule s f

-- The refusal names the first rule that the program breaks; where types do not fit, with the sides.
abbrev pub IsSourceRefusal : Source → TypeRefusal → Type 0
IsSourceRefusal s (refusal.Mismatch at left right names) =
    IsFirstBroken s 83 at × IsMismatch s at (type_of left) (type_of right) × (names ≡ s.names)
IsSourceRefusal s (refusal.Fault f) = IsSourceCause s f × (mismatch_in f ≡ None)

-- What was found of a program whose types fit: the program without its types.
pub record IsTypedSource (source : Source) (found : Core) : Type 0 where
  pub core : program_of found ≡ erased source
  pub solution : Substitution
  pub solves : Solves solution (constraints source)

-- What was found of a text that stands for a program whose types fit: the program without its types.
pub record IsTypedAs (text : List ℕ) (found : Core) : Type 0 where
  pub source : Source
  pub is_text : IsSourceText text source
  pub core : program_of found ≡ erased source
  pub readable : IsReadable (erased source)
  pub solution : Substitution
  pub solves : Solves solution (constraints source)
