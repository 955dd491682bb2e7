-- What is seen of items that run, and how they go forward.
use Rattle.std.specs.Prelude.{◌≡◌, ℕ, zero, suc, ◌-◌, Bool, true, false, nat_eq, List, [], ◌∷◌, drop, length, Option, Some, slice_get}
use Rattle.headline.specs.Carries.{MachineStatus, runs, exits, traps, Machine}
use Rattle.rv32_machine.specs.Steps.{given}
use Rattle.rv32_steps.specs.Trace.{is_return}
use Rattle.rv32_items.specs.declared.Item.{Item}
use Rattle.rv32_items.specs.declared.Item.TheVariants.{Plain, Jump}
use Rattle.rv32_items.specs.Course.{Layout, Point, Turn, Next, Written, Asked, Ended, Trapped, turn, state_at, behind, CourseEnd, Going, Exited, Stopped, course}

abbrev pub finish_of : CourseEnd → MachineStatus
finish_of (Going p) = runs
finish_of (Exited code) = exits code
finish_of (Stopped kind) = traps

-- what is seen of the items from a point on
abbrev pub observed_items : Layout → List Item → Point → Machine
observed_items lay items p i k =
    let c = course lay items k i p in
    record { out = c.out; used = length i - length c.left; finish = finish_of c.end }

-- a jump that links x1 opens a call, and a return closes one
abbrev pub is_call : Option Item → Bool
is_call (Some (Jump link l)) = nat_eq link 1
is_call _ = false

abbrev pub returns : Option Item → Bool
returns (Some (Plain i)) = is_return i
returns _ = false

module _ (lay : Layout) (items : List Item) where
  -- where an item went on to a point, with these calls open: a call opens one more, and a return
  -- goes to the item behind the last call that is open
  abbrev pub home_by : (Point → (calls : List ℕ) → Type 0) → (from : ℕ)
      → (calls : List ℕ) → (opens closes : Bool) → Point → Type 0
  home_by rest from calls true closes q = rest q (suc from ∷ calls)
  home_by rest from calls false false q = rest q calls
  home_by rest from [] false true q = ⊥
  home_by rest from (c ∷ calls) false true q = (q.item ≡ c) × rest q calls

  abbrev pub home_to : (List ℕ → Point → (calls : List ℕ) → Type 0) → (input : List ℕ)
      → Point → (calls : List ℕ) → Turn → Type 0
  home_to rest input p calls (Next q) =
      let i = slice_get items p.item in home_by (rest input) p.item calls (is_call i) (returns i) q
  home_to rest input p calls (Written a len bytes q) = rest input q calls
  home_to rest input p calls (Asked a) =
      rest (drop 1 input) (behind p.item (given (state_at lay items p) (slice_get input 0))) calls
  home_to rest input p calls (Ended code) = Unit {0}
  home_to rest input p calls (Trapped kind) = ⊥

  -- for so many items each return goes home; `calls` are the items behind the calls that are open,
  -- the last call first
  unfoldable pub ReturnsHome : ℕ → (input : List ℕ) → Point → (calls : List ℕ) → Type 0
  ReturnsHome zero input p calls = Unit {0}
  ReturnsHome (suc n) input p calls =
      home_to (λ i q c. ReturnsHome n i q c) input p calls (turn lay items p)
