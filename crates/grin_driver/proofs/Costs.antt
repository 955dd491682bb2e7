-- What is counted of a run, and what it cost.
use Rattle.std.proofs.Common.{◌≡◌, ℕ, zero, suc, ◌<◌, Bool, true, false, List, length, Option, Some, None, if◌then◌else◌, refl, sym, ap, ◌∙◌, subst}
use mathlib.Core.Logic.{inr}
use Rattle.std.specs.Option.{option_map}
use Rattle.elf32.specs.Image.{Image}
use Rattle.elf32.specs.Rules.{Loads}
use Rattle.grin_io.specs.Changes.{ShelfChange, SourceChange, SinkChange}
use Rattle.command_line.specs.Commands.{RunFile, ExecImage}
use Rattle.rv32_machine.specs.Steps.{State, Stand, IsAt, reg, start_of, state_of}
use Rattle.rv32_machine.specs.Runs as runs
use Rattle.rv32_machine.specs.Runs.{MachineEnd, Going, Exited, Stopped, StandsAt, run}
use Rattle.rv32_machine.specs.declared.machine.Stop.{Stop}
use Rattle.rv32_machine.specs.declared.machine.Stop.TheVariants.{Steps, Exit, Trap}
use Rattle.text_commands.specs.declared.status.Status.{Status}
use Rattle.text_commands.specs.declared.status.Status.TheVariants.{Refused, OutOfMemory}
use Rattle.text_commands.specs.Operands.{HoldsOfOperandFile}
use Rattle.text_commands.specs.Reading.{IsRead}
use Rattle.text_commands.proofs.Files.{of_file}
use Rattle.grin_driver.specs.Execution.{IsExecLoadFailure, IsUntouched, OfGiven, Stops, Execution, status_of}
use Rattle.grin_driver.specs.Outcome.{IsBuildFailure}
use Rattle.grin_driver.specs.Costs.{state_at, AreCounts, exec_cost, RunsWithCounts, ExecutesWithCounts, CostsExecution, RunsAtCost, OfOperandFile, AnswersAtCost}
use Rattle.grin_driver.specs.declared.cost.RunCounts.{RunCounts}
use Rattle.grin_driver.specs.declared.cost.Cost.{Cost}
use Rattle.grin_driver.proofs.Execution.{stops_as, refuses_none}

-- ---- the machine's counts

state_is : (e : MachineEnd) (stop : Stop) (m : Stand) → StandsAt e stop m → state_at e ≡ state_of m
state_is (Going s) stop m h = sym h.1.0
state_is (Exited code s) stop m h = sym h.1.0
state_is (Stopped kind s) stop m h = sym h.1.0

module _ {I K : Type 0} (i : SourceChange I) (o : SinkChange K) where
  -- what the machine counts of a run from the start of a program
  pub counted : (program : Image) (m new : Stand) (steps : ℕ) (stop : Stop) (c : RunCounts)
      → IsAt m (start_of program) false false
      → runs.Counted i o steps (state_of m) stop c.instructions new
      → c.next_cell ≡ reg (state_of new) 3 → c.link ≡ reg (state_of new) 5
      → OfGiven i o
      (λ given ended. Stops i o program steps stop given ended
      × AreCounts program steps given ended c)
  counted program m new steps stop c begins h x3 x5 =
      let a : runs.Counted i o steps (start_of program) stop c.instructions new
      = subst (λ s. runs.Counted i o steps s stop c.instructions new) begins.0 h in
      let r = a.answered in (
        r.given,
        (
          r.ended,
          (
            stops_as i o program new steps stop r,
            record {
              done = a.counts;
              x3 = λ bytes b.
                  ap (λ (s : State). reg s 3)
                  (state_is (run steps bytes (start_of program)).end stop new
                  (r.stays bytes b).stands) ∙ sym x3;
              x5 = λ bytes b.
                  ap (λ (s : State). reg s 5)
                  (state_is (run steps bytes (start_of program)).end stop new
                  (r.stays bytes b).stands) ∙ sym x5;
            },
          ),
        ),
      )

  -- the status names the stop
  pub executes : (program : Image) (steps : ℕ) (stop : Stop) (c : RunCounts)
      → OfGiven i o
      (λ given ended. Stops i o program steps stop given ended
      × AreCounts program steps given ended c)
      → RunsWithCounts i o program steps (status_of stop) (Some c)
  executes program steps Steps c h = ((Steps, refl, (h.0, (h.1.0, h.1.1.0))), h.1.1.1)
  executes program steps (Exit zero) c h = ((Exit zero, refl, (h.0, (h.1.0, h.1.1.0))), h.1.1.1)
  executes program steps (Exit (suc code)) c h =
      ((Exit (suc code), refl, (h.0, (h.1.0, h.1.1.0))), h.1.1.1)
  executes program steps (Trap kind pc) c h =
      ((Trap kind pc, refl, (h.0, (h.1.0, h.1.1.0))), h.1.1.1)

  -- what a program does that its bytes stand for
  pub execution : (bytes : List ℕ) (program : Image) (steps : ℕ) → Loads bytes program
      → (status : Status) (counts : Option RunCounts)
      → RunsWithCounts i o program steps status counts
      → ExecutesWithCounts i o bytes steps status counts
  execution bytes program steps loads (Refused k at) None h = absurd (refuses_none h.0.0 k at h.0.1)
  execution bytes program steps loads (Refused k at) (Some c) h
      = absurd (refuses_none h.0.0 k at h.0.1)
  execution bytes program steps loads OutOfMemory None h = h
  execution bytes program steps loads OutOfMemory (Some c) h = absurd h.1
  execution bytes program steps loads status None h = ((program, loads, h.0), h.1)
  execution bytes program steps loads status (Some c) h = ((program, loads, h.0), h.1)

  -- what is left of bytes that are no executable
  pub unloaded : (bytes : List ℕ) (steps : ℕ) (s : Status) → IsUntouched i o
      → IsExecLoadFailure bytes s
      → ExecutesWithCounts i o bytes steps s None
  unloaded bytes steps (Refused k at) same h = ((h, same), refl)
  unloaded bytes steps OutOfMemory same h = (same, refl)
  unloaded bytes steps _ same h = absurd h

  pub executed : (bytes : List ℕ) (steps : ℕ) (s : Status) (counts : Option RunCounts)
      → ExecutesWithCounts i o bytes steps s counts → Execution i o bytes steps s
  executed bytes steps s None h = h.0
  executed bytes steps s (Some c) h = h.0

  -- its cost
  pub costs_execution : (bytes : List ℕ) (steps : ℕ) (s : Status) (counts : Option RunCounts)
      → ExecutesWithCounts i o bytes steps s counts
      → (ran : Execution i o bytes steps s) × CostsExecution i o bytes steps s ran
      (option_map exec_cost counts)
  costs_execution bytes steps s None h = h
  costs_execution bytes steps s (Some c) h = (h.0, (c, refl, h.1))

  -- what is left of a text that has no image
  pub unmade : (text : List ℕ) (cells stack steps : ℕ) (s : Status) → IsUntouched i o
      → IsBuildFailure text s
      → RunsAtCost i o text cells stack steps s None
  unmade text cells stack steps (Refused k at) same h = ((h, same), refl)
  unmade text cells stack steps OutOfMemory same h = (same, refl)
  unmade text cells stack steps _ same h = absurd h

  -- ---- files

  -- what holds of the bytes that were read holds of the file
  pub of_file_at_cost : {F : Type 0} (f : ShelfChange F) (most : ℕ) (untouched : Type 0)
      (file front : List ℕ)
      (outcome : List ℕ → Status → Type 0)
      → (Costs : (bytes : List ℕ) → (status : Status) → outcome bytes status → Option Cost → Type 0)
      → (s : Status) (cost : Option Cost)
      → ((bytes : List ℕ) → length front ≡ most → most < length bytes → (ran : outcome front s)
      → Costs front s ran cost → (ran : outcome bytes s) × Costs bytes s ran cost)
      → IsRead f most file front → (ran : outcome front s) × Costs front s ran cost
      → (answer : HoldsOfOperandFile f most untouched file outcome s)
      × OfOperandFile f most untouched file outcome Costs s answer cost
  of_file_at_cost f most untouched file front outcome Costs s cost longer read h =
      let says = of_file f most file front
      (λ bytes. (ran : outcome bytes s) × Costs bytes s ran cost)
      (λ bytes full long said. longer bytes full long said.0 said.1) read h in
      (inr (says.0, says.1, says.2.0), says.2.1)

  -- ---- commands

  module _ {F : Type 0} (f : ShelfChange F) where
    -- where the cost is asked for it is told, and else it isn't
    pub asked_run : (file : List ℕ) (cells stack steps : ℕ) (stats : Bool) (s s' : Status)
        (cost cost' : Option Cost)
        → s' ≡ s → cost' ≡ (if stats then cost else None)
        → AnswersAtCost f i o (Some (RunFile file cells stack steps true)) s cost
        → AnswersAtCost f i o (Some (RunFile file cells stack steps stats)) s' cost'
    asked_run file cells stack steps stats s s' cost cost' is cost_is h =
        subst (λ x. AnswersAtCost f i o (Some (RunFile file cells stack steps stats)) x cost')
        (sym is)
        (subst (λ y. AnswersAtCost f i o (Some (RunFile file cells stack steps stats)) s y)
        (sym cost_is) (by stats))
      where
        by : (stats : Bool)
            → AnswersAtCost f i o (Some (RunFile file cells stack steps stats)) s
            (if stats then cost else None)
        by true = h
        by false = (h.0, refl)

    pub asked_exec : (image : List ℕ) (steps : ℕ) (stats : Bool) (s s' : Status)
        (cost cost' : Option Cost)
        → s' ≡ s → cost' ≡ (if stats then cost else None)
        → AnswersAtCost f i o (Some (ExecImage image steps true)) s cost
        → AnswersAtCost f i o (Some (ExecImage image steps stats)) s' cost'
    asked_exec image steps stats s s' cost cost' is cost_is h =
        subst (λ x. AnswersAtCost f i o (Some (ExecImage image steps stats)) x cost') (sym is)
        (subst (λ y. AnswersAtCost f i o (Some (ExecImage image steps stats)) s y) (sym cost_is)
        (by stats))
      where
        by : (stats : Bool)
            → AnswersAtCost f i o (Some (ExecImage image steps stats)) s
            (if stats then cost else None)
        by true = h
        by false = (h.0, refl)
