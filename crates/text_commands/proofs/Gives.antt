-- What a text gives where nothing failed.
use Rattle.std.proofs.Common.{◌≡◌, ℕ, List, refl, subst}
use mathlib.Core.Logic.{◌⊎◌, inl, inr}
use Rattle.core_reader.specs.Tree as tree
use Rattle.core_reader.specs.Text as reader
use Rattle.core_reader.specs.Text.{IsFirstUnread}
use Rattle.core_reader.proofs.OnlyOne.{one_program}
use Rattle.arity_check.specs.One.{NormalFormIsUnique}
use Rattle.arity_check.specs.Normal.{IsNormalForm}
use Rattle.arity_check.specs.Program.{Program}
use Rattle.arity_check.specs.Broken.{Broken}
use Rattle.core_link.specs.Rules as linking
use Rattle.lambda_lift.specs.Rules as lifting
use Rattle.match_compile.specs.Rules as matching
use Rattle.core_types.specs.Refused as typing
use Rattle.grin_io.specs.Changes.{SinkChange}
use Rattle.grin_io.specs.Causes.{CountGrew}
use Rattle.text_commands.specs.declared.status.Status.{Status}
use Rattle.text_commands.specs.declared.status.Status.TheVariants.{Done, Refused, OutOfMemory, WriteFault}
use Rattle.text_commands.specs.Text.{IsRefusedBy, Unread, Unaccepted, IsAccepted, IsAcceptable, OneAcceptedProgram}
use Rattle.text_commands.specs.Checking.{IsCheckOutcome}
use Rattle.text_commands.specs.Printing.{IsCanonicalText, IsPrintOutcome}
use Rattle.text_commands.specs.Linking.{IsLinkedText, IsLinkRefusal, IsLinkOutcome}
use Rattle.text_commands.specs.Lifting.{IsLiftedText, IsLiftOutcome}
use Rattle.text_commands.specs.Matching.{IsMatchedText, IsMatchRefusal, IsMatchOutcome}
use Rattle.text_commands.specs.Typing.{IsTypedText, Types, IsMismatchReport, BreaksOtherRule, HasMismatchReport, Sides}
use Rattle.text_commands.proofs.Matched.{unmatched_broken}
use Rattle.text_commands.proofs.TypesFit.{untyped_broken, sided_broken}
use Rattle.text_commands.proofs.Written.{writes_gives}

-- ---- accepted texts are not refused

pub accepted_once : NormalFormIsUnique → OneAcceptedProgram
accepted_once one text source source' p p' a b =
    let same : source ≡ source' = one_program text source source' a.stands b.stands in
    (same, one source' p p' (subst (λ (s : tree.Program). IsNormalForm s p) same a.normal) b.normal)

pub not_refused : (text : List ℕ) (source : tree.Program) (p : Program) → IsAccepted text source p
    → (k at : ℕ) → IsRefusedBy text k at → ⊥
not_refused text source p a k at (Unread _ _ h) = a.read k at h.broken
not_refused text source p a k at (Unaccepted _ _ q u t h) =
    let same : q ≡ source = one_program text q source t a.stands in
    a.unbroken k at (subst (λ (s : tree.Program). Broken s k at) same h.broken)

-- ---- the statuses of a text that is put out

module _ {K : Type 0} (o : SinkChange K) (well : CountGrew (o.faults o.old) (o.faults o.new) → ⊥)
    (text : List ℕ) where
  pub check_gives : (status : Status) → IsCheckOutcome o text status → (status ≡ OutOfMemory)
      ⊎ (IsAcceptable text → status ≡ Done)
  check_gives Done h = inr (λ a. refl)
  check_gives WriteFault h = absurd (well h.1.2.rose)
  check_gives (Refused k at) h = inr
      (λ a. absurd (not_refused text a.source a.program a.accepted k at h.0))
  check_gives OutOfMemory h = inl refl
  check_gives _ h = absurd h

  pub print_gives : (status : Status) → IsPrintOutcome o text status → (status ≡ OutOfMemory)
      ⊎ (reader.IsUnbroken text → status ≡ Done)
  print_gives status h = writes_gives IsCanonicalText IsFirstUnread o well text
      (λ k at u b. u k at b.broken) status h

-- ---- the statuses of modules

pub link_gives : {K : Type 0} (o : SinkChange K) → (CountGrew (o.faults o.old) (o.faults o.new) → ⊥)
    → (texts : List (List ℕ)) (status : Status) → IsLinkOutcome o texts status
    → (status ≡ OutOfMemory) ⊎ (linking.IsUnbroken texts → status ≡ Done)
link_gives o well texts status h = writes_gives IsLinkedText IsLinkRefusal o well texts
    (λ k number u b. u b.2.group k b.0 b.1 b.2.broken) status h

unlifted_broken : (text : List ℕ) (k at : ℕ) → lifting.IsUnbroken text
    → lifting.IsFirstBroken text k at → ⊥
unlifted_broken text k at u (lifting.Unread h) = u.read k at h.broken
unlifted_broken text k at u (lifting.Unlifted read broken first) = u.lifted k at broken

pub lift_gives : {K : Type 0} (o : SinkChange K) → (CountGrew (o.faults o.old) (o.faults o.new) → ⊥)
    → (text : List ℕ) (status : Status) → IsLiftOutcome o text status
    → (status ≡ OutOfMemory) ⊎ (lifting.IsUnbroken text → status ≡ Done)
lift_gives o well text status h = writes_gives IsLiftedText lifting.IsFirstBroken o well text
    (λ k at u b. unlifted_broken text k at u b) status h

pub match_gives : {K : Type 0} (o : SinkChange K) →
    (CountGrew (o.faults o.old) (o.faults o.new) → ⊥) → (text : List ℕ) (status : Status)
    → IsMatchOutcome o text status
    → (status ≡ OutOfMemory) ⊎ (matching.IsUnbroken text → status ≡ Done)
match_gives o well text status h = writes_gives IsMatchedText IsMatchRefusal o well text
    (λ k at u b. unmatched_broken text k at u b) status h

pub types_gives : {K : Type 0} (o : SinkChange K) →
    (CountGrew (o.faults o.old) (o.faults o.new) → ⊥) → (text : List ℕ) (status : Status)
    → Types o text status
    → (status ≡ OutOfMemory) ⊎ (typing.TextBreaksNoRule text → status ≡ Done)
types_gives o well text status h = writes_gives IsTypedText typing.IsFirstBrokenText o well text
    (λ k at u b. untyped_broken text k at u b) status h

pub sides_gives : {K : Type 0} (o : SinkChange K) →
    (CountGrew (o.faults o.old) (o.faults o.new) → ⊥) → (text : List ℕ) (status : Status)
    → Sides o text status
    → (status ≡ OutOfMemory) ⊎ (HasMismatchReport text → status ≡ Done)
sides_gives o well text status h = writes_gives IsMismatchReport BreaksOtherRule o well text
    (λ k at u b. sided_broken text k at u b) status h
