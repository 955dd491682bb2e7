-- How a course leaves the procedures for the stops, which stand behind all procedures, and how it
-- exits.
use Rattle.std.specs.Prelude.{◌≡◌, ℕ, suc, ◌<◌, ◌≤◌, List, Some, slice_get}
use Rattle.rv32_items.specs.declared.Item.{Item}
use Rattle.rv32_items.specs.declared.Item.TheVariants.{Jump}
use Rattle.rv32_items.specs.Course.{Layout, Point, Going, Exited, course}

-- Within k items a course leaves the items before the stops by a jump that links a register: after
-- so many items it stands at the jump, and behind it at the stops alone, with the address behind
-- the jump in that register.
pub record LeavesByLinkJump (lay : Layout) (items : List Item) (stops link : ℕ) (input : List ℕ)
    (start : Point) (k : ℕ) : Type 0 where
  pub taken : ℕ
  pub within : taken < k
  pub point : Point
  pub stood : (course lay items taken input start).end ≡ Going point
  pub before : point.item < stops
  pub target : ℕ
  pub jumps : slice_get items point.item ≡ Some (Jump link target)
  pub stays : (m : ℕ) (q : Point) → taken < m → m ≤ k
      → (course lay items m input start).end ≡ Going q
      → (stops ≤ q.item) × (q.regs link ≡ lay.address (suc point.item))

-- A course exits with a code: after so many items it stands at a point where a register has this
-- value, and the next item is the exit.
pub record ExitsWithRegister (lay : Layout) (items : List Item) (input : List ℕ) (start : Point)
    (code register value : ℕ) : Type 0 where
  pub taken : ℕ
  pub point : Point
  pub stood : (course lay items taken input start).end ≡ Going point
  pub exits : (course lay items (suc taken) input start).end ≡ Exited code
  pub has : point.regs register ≡ value
