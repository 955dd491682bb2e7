-- How soon the machine has done so many items.
use Rattle.std.specs.Prelude.{◌≡◌, ℕ, ◌+◌, ◌*◌, ◌≤◌, List, [], length}
use Rattle.rv32_steps.specs.Seen.{observed_machine}
use Rattle.rv32_steps.specs.Trace.{procedures_at}
use Rattle.rv32_items.specs.declared.Item.{Item}
use Rattle.rv32_items.specs.Course.{Point, state_at, course}
use Rattle.rv32_items.specs.Placed.{size_of, Placed}
use Rattle.rv32_items.specs.Told.{observed_items, ReturnsHome}
use Rattle.rv32_items.specs.Flows.{HasStructuredFlow}
use Rattle.rv32_items.specs.Laws.{HasCode, LabelsOccurOnce}

-- where items flow and each return goes home, the machine shows what so many items show after no
-- more steps than all items take once at the start and once for each procedure that was passed
abbrev pub ItemsBoundSteps : Type 0
ItemsBoundSteps =
    (items : List Item) (words : List ℕ) (placed : Placed items words)
    (p : Point) (i begins : List ℕ)
    → HasCode placed.lay p → p.item ≡ 0 → ((n : ℕ) → ReturnsHome placed.lay items n i p [])
    → LabelsOccurOnce begins items → HasStructuredFlow begins items → (n : ℕ)
    → let procedures = length (procedures_at begins (course placed.lay items n i p).passed) in
    (m : ℕ)
    × ((m ≤ size_of items * (procedures + 1))
    × (observed_machine (state_at placed.lay items p) i m ≡ observed_items placed.lay items p i n))
