-- What a run cost: the instructions that were done, and the cells that were bound; and where it
-- found no alternative.
use Rattle.std.specs.Prelude.{◌≡◌, ℕ, ◌-◌, ◌/◌, min, ◌⊎◌, ◌≤◌, Bool, true, false, List, [], ◌++◌, codes, decimal, Option, Some, None}
use mathlib.Core.Logic.{inl, inr}
use Rattle.elf32.specs.Image.{Image}
use Rattle.command_line.specs.Commands.{CommandLine, RunFile, ExecImage}
use Rattle.headline.specs.Carries.{IsBytes}
use Rattle.grin_io.specs.Causes.{CountGrew}
use Rattle.grin_io.specs.Changes.{KnownContent, ShelfChange, SourceChange, SinkChange, sink_change, BeginsWith}
use Rattle.grin_syntax.specs.SameOutside.{names_of}
use Rattle.rv32_machine.specs.Steps.{State, reg, start_of}
use Rattle.rv32_machine.specs.Runs.{MachineEnd, Going, Exited as exited, Stopped, run, IsCount}
use Rattle.rv32_steps.specs.Trace.{trace, IsLastBefore}
use Rattle.text_commands.specs.declared.status.Status.{Status}
use Rattle.text_commands.specs.declared.status.Status.TheVariants.{Done, Refused, NoAlternative, HeapFull, StackFull, StepLimit, Exited, Trapped, OutOfMemory, ReadFault, WriteFault}
use Rattle.text_commands.specs.Operands.{HoldsOfOperandFile, text_read_limit}
use Rattle.text_commands.specs.Telling.{IsSinglePut, StatusIsPrinted}
use Rattle.grin_compile.specs.Code.{cells_bound}
use Rattle.grin_compile.specs.Limits.{heap_bytes, frame_words, whole_words}
use Rattle.grin_driver.specs.Standing.{IsPlaceLine}
use Rattle.grin_driver.specs.Execution.{IsUntouched, Executes, Execution}
use Rattle.grin_driver.specs.Outcome.{Runs, Outcome}
use Rattle.grin_driver.specs.Answer.{Answers, image_read_limit}
use Rattle.grin_driver.specs.declared.cost.RunCounts.{RunCounts}
use Rattle.grin_driver.specs.declared.cost.Cost.{Cost}
use Rattle.limits.specs.Limits.{heap_start}

-- the run came to its end, or all its steps are done
abbrev pub has_stopped : Status → Bool
has_stopped Done = true
has_stopped NoAlternative = true
has_stopped HeapFull = true
has_stopped StackFull = true
has_stopped StepLimit = true
has_stopped (Exited code) = true
has_stopped (Trapped kind pc) = true
has_stopped _ = false

-- an image came to an exit, but not because its heap was full
abbrev pub exits_within_heap : Status → Bool
exits_within_heap Done = true
exits_within_heap NoAlternative = true
exits_within_heap StackFull = true
exits_within_heap _ = false

-- ---- what is counted of a run

-- the state in which a run stands
abbrev pub state_at : MachineEnd → State
state_at (Going s) = s
state_at (exited code s) = s
state_at (Stopped kind s) = s

-- On whatever input begins with the bytes that were given, so many instructions of the program's
-- run are done, and at its end x3 and x5 are these.
pub record AreCounts (program : Image) (steps : ℕ) (given : List ℕ) (ended : Bool) (c : RunCounts)
    : Type 0 where
  pub done : (bytes : List ℕ) → BeginsWith given ended bytes
      → IsCount c.instructions steps bytes (start_of program)
  pub x3 : (bytes : List ℕ) → BeginsWith given ended bytes
      → reg (state_at (run steps bytes (start_of program)).end) 3 ≡ c.next_cell
  pub x5 : (bytes : List ℕ) → BeginsWith given ended bytes
      → reg (state_at (run steps bytes (start_of program)).end) 5 ≡ c.link

-- On whatever input of bytes begins with those that were given, the last step of the program's run
-- that stood before `stops` stood at `at`.
abbrev pub StoodLast : (program : Image) → (steps : ℕ) → (given : List ℕ) → (ended : Bool)
    → (stops at : ℕ) → Type 0
StoodLast program steps given ended stops at =
    (bytes : List ℕ) → BeginsWith given ended bytes → IsBytes bytes
    → IsLastBefore stops (trace steps bytes (start_of program)) at

-- the cells that stand before an address; where the heap is full, x3 may be past its end
abbrev pub cells_before : (cell_bytes cells next_cell : ℕ) → ℕ
cells_before cell_bytes cells next_cell = min ((next_cell - heap_start) / cell_bytes) cells

-- the cost of a run that ended so, by its counts, whose last step in the code of procedures stood
-- at `at`. The image has so many bytes in a cell, and so many cells, and its procedures start at
-- these addresses and have these names
pub record IsRunCost (cell_bytes cells : ℕ) (starts : List ℕ) (names : List (List ℕ))
    (status : Status) (at : ℕ) (c : RunCounts) (cost : Cost) : Type 0 where
  pub instructions : cost.instructions ≡ c.instructions
  pub cells_bound : cost.cells ≡ Some (cells_before cell_bytes cells c.next_cell)
  pub place : IsPlaceLine starts names status at cost.place

-- there is a cost just where there are counts, of which x5 tells the last step: it stood 4 before
abbrev pub IsCostOf : (cell_bytes cells : ℕ) → (starts : List ℕ) → (names : List (List ℕ))
    → Status → Option RunCounts → Option Cost → Type 0
IsCostOf cell_bytes cells starts names status None None = Unit {0}
IsCostOf cell_bytes cells starts names status (Some c) (Some cost) =
    IsRunCost cell_bytes cells starts names status (c.link - 4) c cost
IsCostOf cell_bytes cells starts names status _ _ = ⊥

-- the cost of an executable, of whose cells and procedures nothing is known
abbrev pub exec_cost : RunCounts → Cost
exec_cost c = record { instructions = c.instructions; cells = None; place = None }

-- ---- a run from a source to a sink

module _ {I K : Type 0} (i : SourceChange I) (o : SinkChange K) where
  -- the counts of the run of a program, of which the status speaks, and which stopped
  abbrev pub CountsOfRun : (program : Image) → (steps : ℕ) → (status : Status)
      → Executes i o program steps status → RunCounts → Type 0
  CountsOfRun program steps ReadFault ran c = ⊥
  CountsOfRun program steps WriteFault ran c = ⊥
  CountsOfRun program steps OutOfMemory ran c = ⊥
  CountsOfRun program steps status ran c = AreCounts program steps ran.2.0 ran.2.1.0 c

  -- those of the program of a file
  abbrev pub CountsOfExecution : (bytes : List ℕ) → (steps : ℕ) → (status : Status)
      → Execution i o bytes steps status → RunCounts → Type 0
  CountsOfExecution bytes steps (Refused rule number) ran c = ⊥
  CountsOfExecution bytes steps OutOfMemory ran c = ⊥
  CountsOfExecution bytes steps status ran c = CountsOfRun ran.0 steps status ran.2 c

  -- there are counts just where the run stopped, and they are those of this run
  abbrev pub RunsWithCounts : (program : Image) → (steps : ℕ) → Status → Option RunCounts → Type 0
  RunsWithCounts program steps status None =
      Executes i o program steps status × (has_stopped status ≡ false)
  RunsWithCounts program steps status (Some c) =
      (ran : Executes i o program steps status) × CountsOfRun program steps status ran c

  abbrev pub ExecutesWithCounts :
      (bytes : List ℕ) → (steps : ℕ) → Status → Option RunCounts → Type 0
  ExecutesWithCounts bytes steps status None =
      Execution i o bytes steps status × (has_stopped status ≡ false)
  ExecutesWithCounts bytes steps status (Some c) =
      (ran : Execution i o bytes steps status) × CountsOfExecution bytes steps status ran c

  -- what the run of the program of a file cost, of which the status speaks: there is a cost just
  -- where it stopped
  abbrev pub CostsExecution : (bytes : List ℕ) → (steps : ℕ) → (status : Status)
      → Execution i o bytes steps status → Option Cost → Type 0
  CostsExecution bytes steps status ran None = has_stopped status ≡ false
  CostsExecution bytes steps status ran (Some cost) =
      (c : RunCounts) × (cost ≡ exec_cost c) × CountsOfExecution bytes steps status ran c

  -- What the run of a text cost, of which the status speaks. Where it found no alternative, its
  -- last step in the code of procedures, which ends at `stops`, stood at `at`.
  pub record CostsRun (text : List ℕ) (cells stack steps : ℕ) (status : Status)
      (runs : Runs i o text cells stack steps status) (cost : Cost) : Type 0 where
    pub counts : RunCounts
    pub are : AreCounts runs.image steps runs.given runs.ended counts
    pub at : ℕ
    pub stood : status ≡ NoAlternative → StoodLast runs.image steps runs.given runs.ended
        runs.from.stops.stops at
    pub cost_is :
        IsRunCost (heap_bytes runs.from.made.g 1) cells runs.from.made.addresses
        (names_of runs.from.made.g.procs) status at counts cost
    -- at an exit within the heap the cells are all those that the low code of the last stage bound
    pub cells_are : exits_within_heap status ≡ true → (bytes : List ℕ)
        → BeginsWith runs.given runs.ended bytes → IsBytes bytes →
        let made = runs.from.made in
        cost.cells
        ≡ Some (cells_bound made.low (frame_words made.frames) cells (whole_words stack)
        made.addresses (start_of runs.image) bytes steps)

  -- the cost of a text's run, which stopped
  abbrev pub CostsStopped : (text : List ℕ) → (cells stack steps : ℕ) → (status : Status)
      → Outcome i o text cells stack steps status → Cost → Type 0
  CostsStopped text cells stack steps (Refused rule number) ran cost = ⊥
  CostsStopped text cells stack steps OutOfMemory ran cost = ⊥
  CostsStopped text cells stack steps status ran cost =
      (has_stopped status ≡ true) × CostsRun text cells stack steps status ran cost

  -- there is a cost just where the run of a text stopped
  abbrev pub CostsText : (text : List ℕ) → (cells stack steps : ℕ) → (status : Status)
      → Outcome i o text cells stack steps status → Option Cost → Type 0
  CostsText text cells stack steps status ran None = has_stopped status ≡ false
  CostsText text cells stack steps status ran (Some cost) =
      CostsStopped text cells stack steps status ran cost

  -- the status of a text that is run, and what its run cost
  abbrev pub RunsAtCost : (text : List ℕ) → (cells stack steps : ℕ) → Status → Option Cost → Type 0
  RunsAtCost text cells stack steps status cost =
      (ran : Outcome i o text cells stack steps status)
      × CostsText text cells stack steps status ran cost

-- ---- commands

-- What is said of a file, and of what it cost: nothing where the file was not read.
module _ {F : Type 0} (f : ShelfChange F) (most : ℕ) (untouched : Type 0) (file : List ℕ)
    (outcome : List ℕ → Status → Type 0)
    (Costs : (bytes : List ℕ) → (status : Status) → outcome bytes status → Option Cost → Type 0)
  where
    abbrev pub OfOperandFile : (status : Status)
        → HoldsOfOperandFile f most untouched file outcome status → Option Cost → Type 0
    OfOperandFile status (inl unread) cost = cost ≡ None
    OfOperandFile status (inr (bytes, taken, ran)) cost = Costs bytes status ran cost

module _ {F I K : Type 0} (f : ShelfChange F) (i : SourceChange I) (o : SinkChange K) where
  -- There is a cost just where one is asked for and the run stopped of which the answer speaks, and
  -- it is that of this run: of the same text or image, and of what the same source gave.
  abbrev pub CostOf : (command : Option CommandLine) → (status : Status)
      → Answers f i o command status → Option Cost → Type 0
  CostOf (Some (RunFile file cells stack steps true)) status answer cost =
      OfOperandFile f text_read_limit (IsUntouched i o) file
      (λ text status. Outcome i o text cells stack steps status)
      (λ text status ran cost. CostsText i o text cells stack steps status ran cost)
      status answer cost
  CostOf (Some (ExecImage image steps true)) status answer cost =
      OfOperandFile f image_read_limit (IsUntouched i o) image
      (λ bytes status. Execution i o bytes steps status)
      (λ bytes status ran cost. CostsExecution i o bytes steps status ran cost)
      status answer cost
  CostOf command status answer cost = cost ≡ None

  -- the answer to a command line, and what its run cost
  abbrev pub AnswersAtCost : Option CommandLine → Status → Option Cost → Type 0
  AnswersAtCost command status cost =
      (answer : Answers f i o command status) × CostOf command status answer cost

-- ---- the line

abbrev pub cells_text : Option ℕ → List ℕ
cells_text None = []
cells_text (Some cells) = codes " cells " ++ decimal cells

-- the line of a cost
abbrev pub cost_line : Cost → List ℕ
cost_line cost =
    codes "grinc: instructions "
    ++ (decimal cost.instructions ++ (cells_text cost.cells ++ codes "\n"))

-- A line is told: by one put, and where the sink's count did not rise it took just the line.
pub record LineIsPrinted {K : Type 0} (o : SinkChange K) (line : List ℕ) : Type 0 where
  pub puts : IsSinglePut o line
  pub later : o.faults o.old ≤ o.faults o.new
  pub took : CountGrew (o.faults o.old) (o.faults o.new)
      ⊎ KnownContent (o.taken o.old) (λ before. o.taken o.new ≡ Some (before ++ line))

-- a line is told, and behind it another one, where there is one
abbrev pub LinesArePrinted : {K : Type 0} → SinkChange K → List ℕ → Option (List ℕ) → Type 0
LinesArePrinted o line None = LineIsPrinted o line
LinesArePrinted {K} o line (Some more) =
    (between : K) × LineIsPrinted (sink_change o.gives o.taken o.faults o.old between) line
    × LineIsPrinted (sink_change o.gives o.taken o.faults between o.new) more

-- the line of the status is told, and behind it, where there is a cost, its line and that of the
-- place where the image stood, if there is one
abbrev pub StatusAndCostArePrinted : {K : Type 0} → SinkChange K → Status → Option Cost → Type 0
StatusAndCostArePrinted {K} o status None = StatusIsPrinted o status
StatusAndCostArePrinted {K} o status (Some cost) =
    (between : K) × StatusIsPrinted (sink_change o.gives o.taken o.faults o.old between) status
    × LinesArePrinted (sink_change o.gives o.taken o.faults between o.new)
    (cost_line cost) cost.place

-- What a command line did, and what is told of it: the line of the status, and behind it the cost
-- of the run of which the status speaks, where one is asked for and that run stopped.
pub record AnswersAndTells {F I K E : Type 0} (f : ShelfChange F) (i : SourceChange I)
    (o : SinkChange K) (e : SinkChange E) (command : Option CommandLine) (status : Status)
    : Type 0 where
  pub answer : Answers f i o command status
  pub cost : Option Cost
  pub cost_is : CostOf f i o command status answer cost
  pub told : StatusAndCostArePrinted e status cost
