-- What a command line gives where nothing failed.
use Rattle.std.proofs.Common.{◌≡◌, ℕ, zero, suc, ◌<◌, ◌≤◌, List, refl, subst, arith}
use mathlib.Core.Logic.{◌⊎◌, inl, inr}
use Rattle.core_reader.specs.Tree as tree
use Rattle.arity_check.specs.Program.{Program}
use Rattle.elf32.specs.Rules.{KeepsBelow}
use Rattle.grin_io.specs.Changes.{SourceChange, SinkChange}
use Rattle.grin_io.specs.Causes.{CountGrew}
use Rattle.grin_stages.specs.Stage.{Fits, HasExpandedSize}
use Rattle.grin_stages.proofs.Alike.{expanded_once}
use Rattle.rv32_machine.specs.declared.machine.Stop.{Stop}
use Rattle.rv32_machine.specs.declared.machine.Stop.TheVariants.{Steps, Exit, Trap}
use Rattle.stage_names.specs.declared.PassName.{PassName}
use Rattle.stage_names.specs.declared.PassName.TheVariants.{Translate}
use Rattle.command_line.specs.declared.command.Listing.{Listing}
use Rattle.command_line.specs.declared.command.Listing.TheVariants as listing
use Rattle.text_commands.specs.declared.status.Status.{Status}
use Rattle.text_commands.specs.declared.status.Status.TheVariants.{Done, Refused, NoAlternative, HeapFull, StackFull, StepLimit, OutOfMemory, ReadFault, WriteFault}
use Rattle.text_commands.specs.Text.{IsRefusedBy, IsAccepted, IsAcceptable, OneAcceptedProgram}
use Rattle.text_commands.proofs.Gives.{not_refused, print_gives}
use Rattle.text_commands.proofs.Written.{writes_gives}
use Rattle.grin_driver.specs.Listing.{IsListing, IsLargeText, IsListRefusal, IsListOutcome}
use Rattle.grin_driver.specs.CodeListing.{IsCodeListing, IsCodeListOutcome}
use Rattle.grin_driver.specs.After.{IsListAfterOutcome}
use Rattle.grin_driver.specs.Pointing.{IsPointsText, Points}
use Rattle.grin_driver.specs.Building.{IsBuildOutcome}
use Rattle.grin_driver.specs.Needs.{IsNeedsText, IsNeedsOutcome}
use Rattle.grin_driver.specs.Tracing.{IsTraceText, IsTraceOutcome}
use Rattle.grin_driver.specs.Profiling.{IsProfileText, IsProfileOutcome}
use Rattle.grin_driver.specs.Execution.{status_of, Execution}
use Rattle.grin_driver.specs.Outcome.{IsImageOf, IsRunRefusal, Outcome}
use Rattle.grin_driver.specs.Generating.{Generates}
use Rattle.grin_driver.specs.Completeness.{IsCompilable, IsListable, IsExecEndStatus, IsRunEndStatus, IsGenerationsEnd}
use Rattle.grin_driver.proofs.Outcomes.{rule_below}

-- ---- programs that fit are not too large

not_large : OneAcceptedProgram → (text : List ℕ) (source : tree.Program) (p : Program)
    → IsAccepted text source p → Fits p → (size : ℕ) → IsLargeText text size → ⊥
not_large one text source p a fits size large =
    let same : large.program ≡ p = (one text large.source source large.program p large.accepted a).1
    in
    let once : size ≡ fits.size = expanded_once p size fits.size
    (subst (λ (q : Program). HasExpandedSize q size) same large.expanded) fits.expanded in
    let small : fits.size ≤ 131072 = fits.small in
    let big : 131072 < size = large.large in
    absurd (omega (arith, once, small, big))

pub runnable : OneAcceptedProgram → (text : List ℕ) → IsCompilable text → (k at : ℕ)
    → IsRunRefusal text k at → ⊥
runnable one text c k at (inl h) = not_refused text c.source c.program c.accepted k at h
runnable one text c k at (inr h) = not_large one text c.source c.program c.accepted c.fits at h.1

-- ---- the statuses of a text that is put out

module _ {K : Type 0} (o : SinkChange K) (well : CountGrew (o.faults o.old) (o.faults o.new) → ⊥)
    (text : List ℕ) where
  translate_gives : (status : Status) → IsListOutcome o text Translate status
      → (status ≡ OutOfMemory) ⊎ (IsAcceptable text → status ≡ Done)
  translate_gives status h = writes_gives (λ text. IsListing text Translate)
      (λ text. IsListRefusal text Translate) o well text listed status h where
        listed : (k at : ℕ) → IsAcceptable text → IsListRefusal text Translate k at → ⊥
        listed k at a (inl g) = not_refused text a.source a.program a.accepted k at g
        listed k at a (inr g) = g.1 refl

  pub points_gives : (status : Status) → Points o text status → (status ≡ OutOfMemory)
      ⊎ (IsAcceptable text → status ≡ Done)
  points_gives status h = writes_gives IsPointsText IsRefusedBy o well text
      (λ k at a. not_refused text a.source a.program a.accepted k at) status h

  module _ (one : OneAcceptedProgram) where
    stage_gives : (after : PassName) (status : Status) → IsListOutcome o text after status
        → (status ≡ OutOfMemory) ⊎ (IsCompilable text → status ≡ Done)
    stage_gives after status h = writes_gives (λ text. IsListing text after)
        (λ text. IsListRefusal text after) o well text listed status h where
          listed : (k at : ℕ) → IsCompilable text → IsListRefusal text after k at → ⊥
          listed k at a (inl g) = not_refused text a.source a.program a.accepted k at g
          listed k at a (inr g) = not_large one text a.source a.program a.accepted a.fits at g.2

    code_gives : (cells stack : ℕ) (status : Status) → IsCodeListOutcome o text cells stack status
        → (status ≡ OutOfMemory) ⊎ (IsCompilable text → status ≡ Done)
    code_gives cells stack status h = writes_gives (λ text. IsCodeListing text cells stack)
        IsRunRefusal o well text (λ k at a. runnable one text a k at) status h

    pub build_gives : (cells stack : ℕ) (status : Status) → IsBuildOutcome o text cells stack status
        → (status ≡ OutOfMemory) ⊎ (IsCompilable text → status ≡ Done)
    build_gives cells stack status h = writes_gives (λ text. IsImageOf text cells stack)
        IsRunRefusal o well text (λ k at a. runnable one text a k at) status h

    pub costs_gives : (cells stack : ℕ) (status : Status) → IsNeedsOutcome o text cells stack status
        → (status ≡ OutOfMemory) ⊎ (IsCompilable text → status ≡ Done)
    costs_gives cells stack status h = writes_gives (λ text. IsNeedsText text cells stack)
        IsRunRefusal o well text (λ k at a. runnable one text a k at) status h

    pub trace_gives : (units : ℕ) (status : Status) → IsTraceOutcome o text units status
        → (status ≡ OutOfMemory) ⊎ (IsCompilable text → status ≡ Done)
    trace_gives units status h = writes_gives (λ text. IsTraceText text units)
        IsRunRefusal o well text (λ k at a. runnable one text a k at) status h

    pub profile_gives : (status : Status) → IsProfileOutcome o text status
        → (status ≡ OutOfMemory) ⊎ (IsCompilable text → status ≡ Done)
    profile_gives status h = writes_gives IsProfileText
        IsRunRefusal o well text (λ k at a. runnable one text a k at) status h

    pub list_gives : (after : Listing) (status : Status) → IsListAfterOutcome o text after status
        → (status ≡ OutOfMemory) ⊎ (IsListable after text → status ≡ Done)
    list_gives listing.Read status h = print_gives o well text status h
    list_gives (listing.Stage Translate) status h = translate_gives status h
    list_gives (listing.Stage stage) status h = stage_gives stage status h
    list_gives listing.Code status h = code_gives 1000000 1048576 status h

    pub generation_gives : (status : Status) → Generates o text status → (status ≡ OutOfMemory)
        ⊎ (IsCompilable text → IsGenerationsEnd status)
    generation_gives Done h = inr (λ a. tt)
    generation_gives WriteFault h = absurd (well h.2.rose)
    generation_gives (Refused k at) (inl g, same) = inr (λ a. absurd (runnable one text a k at g))
    generation_gives (Refused k at) (inr g, same) = inr (λ a. (g.1.1.0, g.1.1.1))
    generation_gives NoAlternative h = inr (λ a. tt)
    generation_gives HeapFull h = inr (λ a. tt)
    generation_gives StackFull h = inr (λ a. tt)
    generation_gives StepLimit h = inr (λ a. tt)
    generation_gives OutOfMemory h = inl refl
    generation_gives _ h = absurd h.0.1.1

-- ---- the statuses of a run

stop_is : (stop : Stop) → IsExecEndStatus (status_of stop)
stop_is Steps = tt
stop_is (Exit zero) = tt
stop_is (Exit (suc code)) = tt
stop_is (Trap kind pc) = tt

module _ {I K : Type 0} (i : SourceChange I) (o : SinkChange K)
    (dry : CountGrew (i.faults i.old) (i.faults i.new) → ⊥)
    (well : CountGrew (o.faults o.old) (o.faults o.new) → ⊥) where
  pub exec_gives : (bytes : List ℕ) (steps : ℕ) (status : Status) → Execution i o bytes steps status
      → (status ≡ OutOfMemory) ⊎ (KeepsBelow 49 bytes → IsExecEndStatus status)
  exec_gives bytes steps (Refused k at) h = inr
      (λ keeps. absurd (keeps h.0.refusal (rule_below h.0.refusal) h.0.broken))
  exec_gives bytes steps OutOfMemory h = inl refl
  exec_gives bytes steps ReadFault h = absurd (dry h.2.1.1.raised)
  exec_gives bytes steps WriteFault h = absurd (well h.2.1.1.raised)
  exec_gives bytes steps status h = inr (λ keeps. subst IsExecEndStatus h.2.1 (stop_is h.2.0))

  pub run_gives : OneAcceptedProgram → (text : List ℕ) (cells stack steps : ℕ) (status : Status)
      → Outcome i o text cells stack steps status
      → (status ≡ OutOfMemory) ⊎ (IsCompilable text → IsRunEndStatus status)
  run_gives one text cells stack steps (Refused k at) h
      = inr (λ c. absurd (runnable one text c k at h.0))
  run_gives one text cells stack steps OutOfMemory h = inl refl
  run_gives one text cells stack steps ReadFault h = absurd (dry h.ran.raised)
  run_gives one text cells stack steps WriteFault h = absurd (well h.ran.raised)
  run_gives one text cells stack steps Done h = inr (λ c. tt)
  run_gives one text cells stack steps NoAlternative h = inr (λ c. tt)
  run_gives one text cells stack steps HeapFull h = inr (λ c. tt)
  run_gives one text cells stack steps StackFull h = inr (λ c. tt)
  run_gives one text cells stack steps StepLimit h = inr (λ c. tt)
  run_gives one text cells stack steps status h = absurd h.ran
