-- What a command line gives where nothing failed, and what it leaves where memory is wanting.
use Rattle.std.proofs.Common.{◌≡◌, ℕ, List, Option, Some, None, refl, sym, subst}
use mathlib.Core.Logic.{◌⊎◌, inl, inr}
use Rattle.command_line.specs.Commands.{CommandLine, RunFile, CheckFile, ListFile, BuildFile, CostsFile, TraceFile, ProfileFile, ExecImage, GenRun, LinkFiles, LiftFile, MatchFile, TypesFile, SidesFile, PointsFile}
use Rattle.command_line.specs.declared.command.Listing.{Listing}
use Rattle.command_line.specs.declared.command.Listing.TheVariants as listing
use Rattle.generator.specs.Generated.{generated}
use Rattle.grin_io.specs.Changes.{ShelfChange, SourceChange, SinkChange}
use Rattle.text_commands.specs.declared.status.Status.{Status}
use Rattle.text_commands.specs.declared.status.Status.TheVariants.{OutOfMemory, ReadFault}
use Rattle.text_commands.specs.Reading.{IsUnread}
use Rattle.text_commands.specs.Operands.{HoldsOfOperandFile, HoldsOfOperandFiles, HoldsOfFileTexts, text_read_limit}
use Rattle.grin_driver.specs.Answer.{Answers, image_read_limit}
use Rattle.grin_driver.specs.After.{IsListAfterOutcome}
use Rattle.grin_driver.specs.Building.{IsBuildOutcome}
use Rattle.grin_driver.specs.Needs.{IsNeedsOutcome}
use Rattle.grin_driver.specs.Tracing.{IsTraceOutcome}
use Rattle.grin_driver.specs.Profiling.{IsProfileOutcome}
use Rattle.text_commands.specs.Linking.{IsLinkOutcome}
use Rattle.text_commands.specs.Lifting.{IsLiftOutcome}
use Rattle.text_commands.specs.Matching.{IsMatchOutcome}
use Rattle.text_commands.specs.Typing.{Types, Sides}
use Rattle.grin_driver.specs.Pointing.{Points}
use Rattle.text_commands.specs.Checking.{IsCheckOutcome}
use Rattle.grin_driver.specs.Execution.{IsUntouched, Execution}
use Rattle.grin_driver.specs.Outcome.{Outcome}
use Rattle.text_commands.specs.Text.{OneAcceptedProgram}
use Rattle.grin_driver.specs.Completeness.{OutOfMemoryOr, NothingFailed, Gives}
use Rattle.grin_driver.specs.Costs.{CostOf, AnswersAtCost}
use Rattle.grin_driver.specs.declared.cost.Cost.{Cost}
use Rattle.text_commands.proofs.Gives.{check_gives, link_gives, lift_gives, match_gives, types_gives, sides_gives}
use Rattle.grin_driver.proofs.Complete.{list_gives, points_gives, build_gives, costs_gives, trace_gives, profile_gives, generation_gives, exec_gives, run_gives}

module _ {F I K : Type 0} (f : ShelfChange F) (i : SourceChange I) (o : SinkChange K) where
  module _ (n : NothingFailed f i o) where
    unread : (status : Status) → IsUnread f status → status ≡ OutOfMemory
    unread OutOfMemory h = refl
    unread ReadFault h = absurd (n.shelf h.0)
    unread _ h = absurd h

    -- what is given for the bytes of a file is given for the file
    of_bytes : (most : ℕ) (untouched : Type 0) (file : List ℕ) (outcome : List ℕ → Status → Type 0)
        (status : Status) (Answer : List ℕ → Type 0)
        → ((bytes : List ℕ) → outcome bytes status → (status ≡ OutOfMemory) ⊎ Answer bytes)
        → HoldsOfOperandFile f most untouched file outcome status
        → OutOfMemoryOr f most file status Answer
    of_bytes most untouched file outcome status Answer gives (inl h) = inl (unread status h.0)
    of_bytes most untouched file outcome status Answer gives (inr (bytes, taken, h))
        = of_answer (gives bytes h) where
          of_answer : (status ≡ OutOfMemory) ⊎ Answer bytes
              → OutOfMemoryOr f most file status Answer
          of_answer (inl memory) = inl memory
          of_answer (inr answer) = inr (bytes, taken, answer)

    -- the same of several files
    of_texts : (most : ℕ) (untouched : Type 0) (files : List (List ℕ))
        (outcome : List (List ℕ) → Status → Type 0) (status : Status)
        (Answer : List (List ℕ) → Type 0)
        → ((texts : List (List ℕ)) → outcome texts status → (status ≡ OutOfMemory) ⊎ Answer texts)
        → HoldsOfOperandFiles f most untouched files outcome status → (status ≡ OutOfMemory)
        ⊎ HoldsOfFileTexts f most files Answer
    of_texts most untouched files outcome status Answer gives (inl h) = inl (unread status h.0)
    of_texts most untouched files outcome status Answer gives (inr (texts, taken, h))
        = of_answer (gives texts h) where
          of_answer : (status ≡ OutOfMemory) ⊎ Answer texts → (status ≡ OutOfMemory)
              ⊎ HoldsOfFileTexts f most files Answer
          of_answer (inl memory) = inl memory
          of_answer (inr answer) = inr (texts, taken, answer)

    pub command_gives : OneAcceptedProgram → (command : Option CommandLine) (status : Status)
        → Answers f i o command status → Gives f command status
    command_gives one None status h = h.0
    command_gives one (Some (RunFile file cells stack steps stats)) status h =
        of_bytes text_read_limit (IsUntouched i o) file
        (λ text status. Outcome i o text cells stack steps status) status _
        (λ text. run_gives i o n.input n.out one text cells stack steps status) h
    command_gives one (Some (CheckFile file)) status h =
        of_bytes text_read_limit (o.new ≡ o.old) file (λ text status. IsCheckOutcome o text status)
        status _ (λ text. check_gives o n.out text status) h.0
    command_gives one (Some (ListFile file after)) status h =
        of_bytes text_read_limit (o.new ≡ o.old) file
        (λ text status. IsListAfterOutcome o text after status) status _
        (λ text. list_gives o n.out text one after status) h.0
    command_gives one (Some (BuildFile file cells stack)) status h =
        of_bytes text_read_limit (o.new ≡ o.old) file
        (λ text status. IsBuildOutcome o text cells stack status) status _
        (λ text. build_gives o n.out text one cells stack status) h.0
    command_gives one (Some (CostsFile file cells stack)) status h =
        of_bytes text_read_limit (o.new ≡ o.old) file
        (λ text status. IsNeedsOutcome o text cells stack status) status _
        (λ text. costs_gives o n.out text one cells stack status) h.0
    command_gives one (Some (TraceFile file units)) status h =
        of_bytes text_read_limit (o.new ≡ o.old) file
        (λ text status. IsTraceOutcome o text units status) status _
        (λ text. trace_gives o n.out text one units status) h.0
    command_gives one (Some (ProfileFile file)) status h =
        of_bytes text_read_limit (o.new ≡ o.old) file
        (λ text status. IsProfileOutcome o text status) status _
        (λ text. profile_gives o n.out text one status) h.0
    command_gives one (Some (ExecImage image steps stats)) status h =
        of_bytes image_read_limit (IsUntouched i o) image
        (λ bytes status. Execution i o bytes steps status) status _
        (λ bytes. exec_gives i o n.input n.out bytes steps status) h
    command_gives one (Some (GenRun seed size)) status h
        = generation_gives o n.out (generated seed size) one status h.0
    command_gives one (Some (LinkFiles files)) status h =
        of_texts text_read_limit (o.new ≡ o.old) files
        (λ texts status. IsLinkOutcome o texts status) status _
        (λ texts. link_gives o n.out texts status) h.0
    command_gives one (Some (LiftFile file)) status h =
        of_bytes text_read_limit (o.new ≡ o.old) file (λ text status. IsLiftOutcome o text status)
        status _ (λ text. lift_gives o n.out text status) h.0
    command_gives one (Some (MatchFile file)) status h =
        of_bytes text_read_limit (o.new ≡ o.old) file (λ text status. IsMatchOutcome o text status)
        status _ (λ text. match_gives o n.out text status) h.0
    command_gives one (Some (TypesFile file)) status h =
        of_bytes text_read_limit (o.new ≡ o.old) file (λ text status. Types o text status) status _
        (λ text. types_gives o n.out text status) h.0
    command_gives one (Some (SidesFile file)) status h =
        of_bytes text_read_limit (o.new ≡ o.old) file (λ text status. Sides o text status) status _
        (λ text. sides_gives o n.out text status) h.0
    command_gives one (Some (PointsFile file)) status h =
        of_bytes text_read_limit (o.new ≡ o.old) file (λ text status. Points o text status) status _
        (λ text. points_gives o n.out text status) h.0

  -- ---- want of memory

  pub memory_untouched : (command : Option CommandLine) → Answers f i o command OutOfMemory
      → o.new ≡ o.old
  memory_untouched None h = h.3
  memory_untouched (Some (RunFile file cells stack steps stats)) (inl h) = h.1.1
  memory_untouched (Some (RunFile file cells stack steps stats)) (inr h) = h.2.1
  memory_untouched (Some (CheckFile file)) (inl h, same) = h.1
  memory_untouched (Some (CheckFile file)) (inr h, same) = h.2
  memory_untouched (Some (ListFile file after)) h = listed after h.0
    where
      listed : (after : Listing) → HoldsOfOperandFile f text_read_limit (o.new ≡ o.old) file
          (λ text status. IsListAfterOutcome o text after status) OutOfMemory → o.new ≡ o.old
      listed after (inl h) = h.1
      listed listing.Read (inr h) = h.2
      listed (listing.Stage stage) (inr h) = h.2
      listed listing.Code (inr h) = h.2
  memory_untouched (Some (BuildFile file cells stack)) (inl h, same) = h.1
  memory_untouched (Some (BuildFile file cells stack)) (inr h, same) = h.2
  memory_untouched (Some (CostsFile file cells stack)) (inl h, same) = h.1
  memory_untouched (Some (CostsFile file cells stack)) (inr h, same) = h.2
  memory_untouched (Some (TraceFile file units)) (inl h, same) = h.1
  memory_untouched (Some (TraceFile file units)) (inr h, same) = h.2
  memory_untouched (Some (ProfileFile file)) (inl h, same) = h.1
  memory_untouched (Some (ProfileFile file)) (inr h, same) = h.2
  memory_untouched (Some (ExecImage image steps stats)) (inl h) = h.1.1
  memory_untouched (Some (ExecImage image steps stats)) (inr h) = h.2.1
  memory_untouched (Some (GenRun seed size)) h = h.0.1
  memory_untouched (Some (LinkFiles files)) (inl h, same) = h.1
  memory_untouched (Some (LinkFiles files)) (inr h, same) = h.2
  memory_untouched (Some (LiftFile file)) (inl h, same) = h.1
  memory_untouched (Some (LiftFile file)) (inr h, same) = h.2
  memory_untouched (Some (MatchFile file)) (inl h, same) = h.1
  memory_untouched (Some (MatchFile file)) (inr h, same) = h.2
  memory_untouched (Some (TypesFile file)) (inl h, same) = h.1
  memory_untouched (Some (TypesFile file)) (inr h, same) = h.2
  memory_untouched (Some (SidesFile file)) (inl h, same) = h.1
  memory_untouched (Some (SidesFile file)) (inr h, same) = h.2
  memory_untouched (Some (PointsFile file)) (inl h, same) = h.1
  memory_untouched (Some (PointsFile file)) (inr h, same) = h.2

  -- ---- no cost

  -- what answers a command of which no cost is told
  pub untold : (command asked : Option CommandLine) (status ended : Status) (cost : Option Cost)
      → command ≡ asked → ended ≡ status → cost ≡ None
      → (answer : Answers f i o asked status) → CostOf f i o asked status answer None
      → AnswersAtCost f i o command ended cost
  untold command asked status ended cost is same none answer nothing =
      subst (λ x. AnswersAtCost f i o x ended cost) (sym is)
      (subst (λ s. AnswersAtCost f i o asked s cost) (sym same)
      (subst (λ y. AnswersAtCost f i o asked status y) (sym none) (answer, nothing)))
