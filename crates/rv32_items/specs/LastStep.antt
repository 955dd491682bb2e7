-- The last step of a run in the procedures, and its end.
use Rattle.std.specs.Prelude.{◌≡◌, ℕ, ◌+◌, ◌-◌, ◌*◌, ◌<◌, true, List, drop}
use Rattle.rv32_machine.specs.Memory.{end_of}
use Rattle.rv32_machine.specs.Steps.{State}
use Rattle.rv32_machine.specs.Runs.{Exited as Exited', run}
use Rattle.rv32_steps.specs.Trace.{trace, is_one_of, IsLastBefore}
use Rattle.rv32_items.specs.declared.Item.{Item}
use Rattle.rv32_items.specs.Course.{Point, Exited, state_at, course, NeverTrapsOn}
use Rattle.rv32_items.specs.Placed.{size_of, Placed}
use Rattle.rv32_items.specs.Flows.{HasStructuredFlow}
use Rattle.rv32_items.specs.Laws.{HasCode, addresses_of, LabelsOccurOnce}
use Rattle.rv32_items.specs.Leaving.{LeavesByLinkJump, ExitsWithRegister}

-- where each course that exits with a code has left by a jump that links a register, a run of the
-- machine that has exited so did its last step before the stops at that jump, 4 before what the
-- register then has
abbrev pub LastStepIsAtLinkJump : Type 0
LastStepIsAtLinkJump =
    (items : List Item) (words : List ℕ) (placed : Placed items words)
    (p : Point) (i : List ℕ) (stops link code : ℕ)
    → HasCode placed.lay p → NeverTrapsOn placed.lay items i p
    → ((k : ℕ) → (course placed.lay items k i p).end ≡ Exited code
    → LeavesByLinkJump placed.lay items stops link i p k)
    → (m : ℕ) (s : State) → (run m i (state_at placed.lay items p)).end ≡ Exited' code s
    → IsLastBefore (placed.lay.address stops) (trace m i (state_at placed.lay items p))
    (s.regs link - 4)

-- all procedures lie before the stops
abbrev pub ProceduresPrecedeStops : Type 0
ProceduresPrecedeStops =
    (items : List Item) (words : List ℕ) (placed : Placed items words) (begins : List ℕ)
    → LabelsOccurOnce begins items → (flows : HasStructuredFlow begins items) → (a : ℕ)
    → is_one_of (addresses_of placed.lay items begins) a ≡ true
    → a < placed.lay.address flows.stops

-- the stops are the last words of the code, one for each instruction of them
abbrev pub StopsAreLast : Type 0
StopsAreLast =
    (items : List Item) (words : List ℕ) (placed : Placed items words) (begins : List ℕ)
    → (flows : HasStructuredFlow begins items)
    → placed.lay.address flows.stops + 4 * size_of (drop flows.stops items) ≡ end_of placed.lay.code

-- where a course exits with a value in a register, so does the machine
abbrev pub ExitKeepsRegisters : Type 0
ExitKeepsRegisters =
    (items : List Item) (words : List ℕ) (placed : Placed items words)
    (p : Point) (i : List ℕ) (exit register value code : ℕ)
    → HasCode placed.lay p → NeverTrapsOn placed.lay items i p
    → ExitsWithRegister placed.lay items i p exit register value
    → (m : ℕ) (s : State) → (run m i (state_at placed.lay items p)).end ≡ Exited' code s
    → s.regs register ≡ value
