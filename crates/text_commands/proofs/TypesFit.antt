-- Refusals of texts with types, texts that are too long, and why a text that breaks no rule is not
-- refused.
use Rattle.std.proofs.Common.{◌≡◌, ◌≢◌, ℕ, ◌<◌, ◌≤◌, Bool, true, false, List, length, refl, subst, arith, None}
use Rattle.std.specs.Prelude.{◌==◌, nat_le, if◌then◌else◌}
use Rattle.std.proofs.lemmas.Bool.{eqb-true}
use Rattle.std.proofs.lemmas.Bool.Decides.{nat_tests}
use mathlib.Core.Logic.{inl, inr}
use Rattle.core_reader.specs.declared.refusal.ReadRefusal.{ReadRefusal}
use Rattle.core_reader.specs.declared.refusal.ReadRefusal.TheVariants as unread
use Rattle.core_reader.specs.RulesOf as reading
use Rattle.core_reader.proofs.OnlyOne.{one_thing}
use Rattle.arity_check.specs.declared.refusal.CheckRefusal.{CheckRefusal}
use Rattle.arity_check.specs.declared.refusal.CheckRefusal.TheVariants as unchecked
use Rattle.arity_check.specs.Refusal as core
use Rattle.arity_check.specs.Order.{IsBefore}
use Rattle.arity_check.specs.Order as core-order
use Rattle.core_types.specs.Refused.{IsCause, IsFirstBrokenText, TextBreaksNoRule, Unread, Untyped, rule, number, unread_rule, mismatch_in}
use Rattle.core_types.specs.Rules.{rank, IsFirstBroken}
use Rattle.core_types.specs.Source.{Source}
use Rattle.core_types.proofs.SourceReading.{source_reads}
use Rattle.core_types.proofs.TextSides.{not_unread}
use Rattle.core_types.specs.declared.refusal.TypeFault.{TypeFault}
use Rattle.core_types.specs.declared.refusal.TypeFault.TheVariants as fault
use Rattle.text_commands.specs.Typing.{IsTypedText, IsMismatchReport, Fitting, Apart, BreaksOtherRule, HasMismatchReport}
use Rattle.text_commands.proofs.Texts.{unread_long}

-- a refusal that is no want of memory names the first broken rule
pub type_caused : (text : List ℕ) (f : TypeFault) → (rule f ≡ 0 → ⊥) → IsCause text f
    → IsFirstBrokenText text (rule f) (number f)
type_caused text (fault.Unread e) some h = h
type_caused text (fault.Unchecked r) some h = h
type_caused text (fault.DuplicateType at) some h = h
type_caused text (fault.UnknownType at) some h = h
type_caused text (fault.Mismatch at) some h = h
type_caused text (fault.NotExhaustive at) some h = h
type_caused text (fault.BadSignature at) some h = h
type_caused text fault.ListType some h = h
type_caused text (fault.Memory e) some h = absurd (some refl)

-- ---- refusals for another rule than that types do not fit

unread_apart : (r : ReadRefusal) → unread_rule r ≢ 83
unread_apart (unread.BadByte at) e = absurd (omega (arith, e))
unread_apart (unread.Syntax at) e = absurd (omega (arith, e))
unread_apart (unread.NumberRange at) e = absurd (omega (arith, e))
unread_apart (unread.TooDeep at) e = absurd (omega (arith, e))
unread_apart unread.TextTooLong e = absurd (omega (arith, e))
unread_apart (unread.Memory at) e = absurd (omega (arith, e))

core_apart : (r : CheckRefusal) → core.rule r ≢ 83
core_apart (unchecked.DuplicateConstructor n) e = absurd (omega (arith, e))
core_apart (unchecked.DuplicateFunction n) e = absurd (omega (arith, e))
core_apart (unchecked.DuplicateName n) e = absurd (omega (arith, e))
core_apart (unchecked.UnknownName n) e = absurd (omega (arith, e))
core_apart (unchecked.ConstructorArity n) e = absurd (omega (arith, e))
core_apart (unchecked.DefaultNotLast n) e = absurd (omega (arith, e))
core_apart (unchecked.DuplicateAlternative n) e = absurd (omega (arith, e))
core_apart (unchecked.MixedAlternatives n) e = absurd (omega (arith, e))
core_apart (unchecked.ReservedName n) e = absurd (omega (arith, e))
core_apart (unchecked.PrimitiveArity n) e = absurd (omega (arith, e))
core_apart unchecked.NoMain e = absurd (omega (arith, e))
core_apart (unchecked.MainHasParameters n) e = absurd (omega (arith, e))
core_apart unchecked.NoListConstructors e = absurd (omega (arith, e))
core_apart (unchecked.TooManyFunctions n) e = absurd (omega (arith, e))
core_apart (unchecked.TooManyConstructors n) e = absurd (omega (arith, e))
core_apart (unchecked.TooManyParameters n) e = absurd (omega (arith, e))
core_apart (unchecked.TooManyFields n) e = absurd (omega (arith, e))
core_apart (unchecked.CoreTooLarge n) e = absurd (omega (arith, e))
core_apart (unchecked.Memory n) e = absurd (omega (arith, e))

pub fault_apart : (f : TypeFault) → mismatch_in f ≡ None → rule f ≢ 83
fault_apart (fault.Unread r) n e = unread_apart r e
fault_apart (fault.Unchecked r) n e = core_apart r e
fault_apart (fault.Mismatch at) n e = absurd cc
fault_apart fault.ListType n e = absurd (omega (arith, e))
fault_apart (fault.Memory a) n e = absurd (omega (arith, e))
fault_apart (fault.DuplicateType at) n e = absurd (omega (arith, e))
fault_apart (fault.UnknownType at) n e = absurd (omega (arith, e))
fault_apart (fault.NotExhaustive at) n e = absurd (omega (arith, e))
fault_apart (fault.BadSignature at) n e = absurd (omega (arith, e))

-- ---- texts that are too long

pub untyped_long : (front text : List ℕ) → 1048576 < length front → 1048576 < length text
    → (k at : ℕ) → IsFirstBrokenText front k at → IsFirstBrokenText text k at
untyped_long front text short long k at (Unread h) = Unread
    (unread_long front text short long k at h)
untyped_long front text short long k at (Untyped read s t h)
    = absurd (read 5 1048576 (reading.TextTooLong short))

pub typed_short : (text bytes : List ℕ) → 1048576 < length text → IsTypedText text bytes → ⊥
typed_short text bytes long h = h.unbroken.0 5 1048576 (reading.TextTooLong long)

apart_short : (text : List ℕ) (at : ℕ) → 1048576 < length text → IsFirstBrokenText text 83 at → ⊥
apart_short text at long (Unread h) = not_unread text 83 at refl h.broken
apart_short text at long (Untyped read s t h) = read 5 1048576 (reading.TextTooLong long)

pub sides_short : (text bytes : List ℕ) → 1048576 < length text → IsMismatchReport text bytes → ⊥
sides_short text bytes long (Fitting u e) = u.0 5 1048576 (reading.TextTooLong long)
sides_short text bytes long (Apart {at = at} s broken t m e) = apart_short text at long broken

pub another_long : (front text : List ℕ) → 1048576 < length front → 1048576 < length text
    → (k at : ℕ) → BreaksOtherRule front k at → BreaksOtherRule text k at
another_long front text short long k at h = (untyped_long front text short long k at h.0, h.1)

-- ---- texts that break no rule

pub untyped_broken : (text : List ℕ) (k at : ℕ) → TextBreaksNoRule text
    → IsFirstBrokenText text k at → ⊥
untyped_broken text k at u (Unread h) = u.0 k at h.broken
untyped_broken text k at u (Untyped read s t h) = u.1 s t k at h.broken

-- ---- a text whose types do not fit first breaks no other rule

same_group : (a b : ℕ × ℕ × ℕ) → IsBefore a b → IsBefore b a → a.0 ≡ b.0
same_group a b (inl l) (inl m) = absurd (omega (arith, l, m))
same_group a b (inl l) (inr m) = absurd (let e = m.0 in omega (arith, l, e))
same_group a b (inr l) m = l.0

-- the rank of a rule by the tests on its number
abbrev by : Bool → Bool → Bool → Bool → ℕ → ℕ → ℕ × ℕ × ℕ
by partial apart lists types k at =
    if partial then (6, at, k) else if apart then (5, at, k) else if lists then (4, at, k)
    else if types then (3, at, k) else core-order.rank k at

core_early : (k at : ℕ) → (core-order.rank k at).0 ≤ 2
core_early k at = grind (arith, nat_tests)

in_group : (a b c d : Bool) (k at : ℕ) → (k == 83) ≡ b → (by a b c d k at).0 ≡ 5 → k ≡ 83
in_group true b c d k at f e = absurd (omega (arith, e))
in_group false true c d k at f e = eqb-true k 83 f
in_group false false true d k at f e = absurd (omega (arith, e))
in_group false false false true k at f e = absurd (omega (arith, e))
in_group false false false false k at f e = absurd (let l = core_early k at in omega (arith, e, l))

one_rule : (s : Source) (k at at' : ℕ) → IsFirstBroken s k at → IsFirstBroken s 83 at' → k ≡ 83
one_rule s k at at' h g = in_group (k == 84) (k == 83) (k == 86) (nat_le 81 k) k at refl
    (same_group (rank k at) (rank 83 at') (h.first 83 at' g.broken) (g.first k at h.broken))

apart_once : (text : List ℕ) (k at at' : ℕ) → IsFirstBrokenText text k at
    → IsFirstBrokenText text 83 at' → k ≡ 83
apart_once text k at at' h (Unread g) = absurd (not_unread text 83 at' refl g.broken)
apart_once text k at at' (Unread h) (Untyped read s t g) = absurd (read k at h.broken)
apart_once text k at at' (Untyped read s t h) (Untyped read' s' t' g)
    = one_rule s' k at at'
    (subst (λ (x : Source). IsFirstBroken x k at) (one_thing source_reads text s s' t t') h) g

pub sided_broken : (text : List ℕ) (k at : ℕ) → HasMismatchReport text → BreaksOtherRule text k at
    → ⊥
sided_broken text k at (inl u) b = untyped_broken text k at u b.0
sided_broken text k at (inr h) b = b.1 (apart_once text k at h.0 b.0 h.1)
