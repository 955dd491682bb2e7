-- What the machine does with words that are placed for items.
use Rattle.std.specs.Prelude.{◌≡◌, ℕ, suc, ◌*◌, ◌≤◌, true, List, [], ◌∷◌, map, slice_get, unwrap_or}
use Rattle.headline.specs.Carries.{ShowsSameRuns}
use Rattle.rv32_machine.specs.Memory.{Stretch}
use Rattle.rv32_steps.specs.Seen.{observed_machine}
use Rattle.rv32_steps.specs.Trace.{trace, is_one_of, procedures_at, Forward}
use Rattle.rv32_items.specs.declared.Item.{Item}
use Rattle.rv32_items.specs.Course.{Layout, Point, label_from, state_at, course, NeverTraps, NeverTrapsOn}
use Rattle.rv32_items.specs.Placed.{is_instruction, times, Placed}
use Rattle.rv32_items.specs.Told.{observed_items, ReturnsHome}
use Rattle.rv32_items.specs.Flows.{begins_procedure, HasStructuredFlow}

-- the addresses at which labels stand
abbrev pub address_of : Layout → List Item → (label : ℕ) → ℕ
address_of lay items l = lay.address (unwrap_or (label_from 0 items l) 0)

abbrev pub addresses_of : Layout → List Item → (labels : List ℕ) → List ℕ
addresses_of lay items labels = map (address_of lay items) labels

-- the code is the first segment of a point's memory
abbrev pub HasCode : Layout → Point → Type 0
HasCode lay p = (rest : List Stretch) × (p.memory ≡ lay.code ∷ rest)

-- the machine shows what the items show
abbrev pub MachineMatchesItems : Type 0
MachineMatchesItems =
    (items : List Item) (words : List ℕ) (placed : Placed items words) (p : Point)
    → HasCode placed.lay p → NeverTraps placed.lay items p
    → ShowsSameRuns (observed_items placed.lay items p)
    (observed_machine (state_at placed.lay items p))

-- after so many items there is a moment of the machine that shows the same, in at most three steps
-- for each
abbrev pub ItemsAreReached : Type 0
ItemsAreReached =
    (items : List Item) (words : List ℕ) (placed : Placed items words) (p : Point) (i : List ℕ)
    → HasCode placed.lay p → NeverTrapsOn placed.lay items i p → (n : ℕ)
    → (m : ℕ) × ((m ≤ 3 * n)
    × (observed_machine (state_at placed.lay items p) i m ≡ observed_items placed.lay items p i n))

-- after m steps the machine shows what n items show, and it has entered the addresses of just the
-- labels that they passed
pub record MachineMeetsItems (lay : Layout) (items : List Item)
    (begins i : List ℕ) (p : Point) (m n : ℕ)
    : Type 0 where
  pub seen : observed_machine (state_at lay items p) i m ≡ observed_items lay items p i n
  pub entered :
      procedures_at (addresses_of lay items begins) (trace m i (state_at lay items p))
      ≡ procedures_at begins (course lay items n i p).passed

-- each of these labels stands once
abbrev pub LabelsOccurOnce : (begins : List ℕ) → List Item → Type 0
LabelsOccurOnce begins items = (b : ℕ) → is_one_of begins b ≡ true → times b items ≡ 1

-- and has an instruction right behind it
abbrev pub BeforeInstructions : (begins : List ℕ) → List Item → Type 0
BeforeInstructions begins items =
    (n : ℕ) → begins_procedure begins (slice_get items n) ≡ true
    → is_instruction (slice_get items (suc n)) ≡ true

-- after any number of steps there are so many items that the two meet
abbrev pub MachineEntersLabels : Type 0
MachineEntersLabels =
    (items : List Item) (words : List ℕ) (placed : Placed items words)
    (p : Point) (i begins : List ℕ)
    → HasCode placed.lay p → NeverTrapsOn placed.lay items i p → p.item ≡ 0
    → LabelsOccurOnce begins items → BeforeInstructions begins items
    → (m : ℕ) → (n : ℕ) × MachineMeetsItems placed.lay items begins i p m n

-- where items flow and each return goes home, the machine goes forward
abbrev pub MachineGoesForward : Type 0
MachineGoesForward =
    (items : List Item) (words : List ℕ) (placed : Placed items words)
    (p : Point) (i begins : List ℕ)
    → HasCode placed.lay p → p.item ≡ 0 → ((n : ℕ) → ReturnsHome placed.lay items n i p [])
    → LabelsOccurOnce begins items → HasStructuredFlow begins items
    → (m : ℕ) → Forward (addresses_of placed.lay items begins) m i (state_at placed.lay items p) []
