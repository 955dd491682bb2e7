-- Refusals of texts, and texts that are too long.
use Rattle.std.proofs.Common.{◌≡◌, ℕ, ◌<◌, List, length, refl, subst, sym}
use mathlib.Core.Logic.{inl, inr}
use Rattle.core_reader.specs.Tree as tree
use Rattle.core_reader.proofs.Unbroken.{unbroken_is_readable}
use Rattle.core_reader.specs.declared.dialect.Dialect.{Dialect}
use Rattle.core_reader.specs.ProgramsOf.{Language}
use Rattle.core_reader.specs.RulesOf.{IsFirstUnread, TextTooLong, IsNoLaterFault}
use Rattle.arity_check.specs.Program.{Program}
use Rattle.arity_check.specs.Accepted.{IsFirstBroken, IsValid}
use Rattle.arity_check.specs.First as check
use Rattle.arity_check.specs.Refusal.{rule, number}
use Rattle.arity_check.specs.declared.refusal.CheckRefusal.{CheckRefusal}
use Rattle.arity_check.specs.declared.refusal.CheckRefusal.TheVariants.{DuplicateConstructor, DuplicateFunction, DuplicateName, UnknownName, ConstructorArity, DefaultNotLast, DuplicateAlternative, MixedAlternatives, ReservedName, PrimitiveArity, NoMain, MainHasParameters, NoListConstructors, TooManyFunctions, TooManyConstructors, TooManyParameters, TooManyFields, CoreTooLarge, Memory}
use Rattle.text_commands.specs.declared.status.Status.{Status}
use Rattle.text_commands.specs.declared.status.Status.TheVariants.{Refused, OutOfMemory}
use Rattle.text_commands.specs.Text.{IsRefusedBy, Unread, Unaccepted, IsAccepted, IsTextRefusal, IsAcceptFailure}
use Rattle.core_reader.proofs.OnlyOne.{at_five}

-- a refusal that is no want of memory names the first broken rule
pub caused : (p : tree.Program) (r : CheckRefusal) → (rule r ≡ 0 → ⊥) → check.IsCause p r
    → IsFirstBroken p (rule r) (number r)
caused p (DuplicateConstructor at) some h = h
caused p (DuplicateFunction at) some h = h
caused p (DuplicateName at) some h = h
caused p (UnknownName at) some h = h
caused p (ConstructorArity at) some h = h
caused p (DefaultNotLast at) some h = h
caused p (DuplicateAlternative at) some h = h
caused p (MixedAlternatives at) some h = h
caused p (ReservedName at) some h = h
caused p (PrimitiveArity at) some h = h
caused p NoMain some h = h
caused p (MainHasParameters at) some h = h
caused p NoListConstructors some h = h
caused p (TooManyFunctions at) some h = h
caused p (TooManyConstructors at) some h = h
caused p (TooManyParameters at) some h = h
caused p (TooManyFields at) some h = h
caused p (CoreTooLarge size) some h = h
caused p (Memory e) some h = absurd (some refl)

-- a text that is not read is not accepted
pub not_accepted : (text : List ℕ) (status : Status) → IsTextRefusal text status
    → IsAcceptFailure text status
not_accepted text (Refused k at) h = Unread k at h
not_accepted text OutOfMemory h = h
not_accepted text _ h = absurd h

-- the normal form of an accepted text is valid
pub accepted_is_valid : (text : List ℕ) (source : tree.Program) (p : Program)
    → IsAccepted text source p → IsValid p
accepted_is_valid text source p a = record {
  program = source;
  readable = unbroken_is_readable text source a.read a.stands;
  unbroken
      = a.unbroken;
  normal = a.normal;
}

-- ---- texts that are too long

five_first : (k at at' : ℕ) → IsNoLaterFault k at 5 at' → k ≡ 5
five_first k at at' (inl h) = h
five_first k at at' (inr h) = absurd (h.0 refl)

-- a text of any language
module _ {P : Type 0} {d : Dialect} {Derives : Language P} where
  too_long : (text : List ℕ) → 1048576 < length text → IsFirstUnread d Derives text 5 1048576
  too_long text long = record { broken = TextTooLong long; first = λ k at h. inl refl }

  -- of a text that is too long so much of its front is too long
  pub unread_long : (front text : List ℕ) → 1048576 < length front → 1048576 < length text
      → (k at : ℕ) → IsFirstUnread d Derives front k at → IsFirstUnread d Derives text k at
  unread_long front text short long k at h =
      let five : k ≡ 5 = five_first k at 1048576 (h.first 5 1048576 (TextTooLong short)) in
      let limit : at ≡ 1048576 = at_five front k at h.broken five in
      subst (λ n. IsFirstUnread d Derives text n at) (sym five)
      (subst (λ n. IsFirstUnread d Derives text 5 n) (sym limit) (too_long text long))

pub refused_long : (front text : List ℕ) → 1048576 < length front → 1048576 < length text
    → (k at : ℕ) → IsRefusedBy front k at → IsRefusedBy text k at
refused_long front text short long k at (Unread _ _ h)
    = Unread k at (unread_long front text short long k at h)
refused_long front text short long k at (Unaccepted _ _ p u t h)
    = absurd (u 5 1048576 (TextTooLong short))

-- a text that is too long is not accepted
pub accepted_short : {A : Type 0} (text : List ℕ) (source : tree.Program) (program : Program)
    → 1048576 < length text → IsAccepted text source program → A
accepted_short text source program long a = absurd (a.read 5 1048576 (TextTooLong long))
