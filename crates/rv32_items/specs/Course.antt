-- What items do, one after another, once each has an address.
use Rattle.std.specs.Prelude.{◌≢◌, ℕ, zero, suc, Bool, false, nat_eq, if◌then◌else◌, List, [], ◌∷◌, ◌++◌, drop, Option, Some, None, slice_get}
use Rattle.rv32_isa.specs.declared.instr.Instr.{Instr}
use Rattle.rv32_isa.specs.declared.instr.BranchKind.{BranchKind}
use Rattle.rv32_isa.specs.declared.instr.BranchKind.TheVariants.{Beq, Bne, Blt, Bge, Bltu, Bgeu}
use Rattle.rv32_machine.specs.declared.machine.TrapKind.{TrapKind}
use Rattle.rv32_machine.specs.declared.machine.TrapKind.TheVariants.{AccessOutside}
use Rattle.rv32_machine.specs.Memory.{Stretch}
use Rattle.rv32_machine.specs.Arithmetic.{is_taken}
use Rattle.rv32_machine.specs.Steps.{State, Outcome, Next as Next', Written as Written', Asked as Asked', Ended as Ended', Trapped as Trapped', act, given, set_reg, reg}
use Rattle.rv32_steps.specs.Trace.{is_return}
use Rattle.rv32_items.specs.declared.Cond.{Cond}
use Rattle.rv32_items.specs.declared.Cond.TheVariants.{Eq, Ne, Lt, Ge, Ltu, Geu}
use Rattle.rv32_items.specs.declared.Item.{Item}
use Rattle.rv32_items.specs.declared.Item.TheVariants.{Label, Plain, Branch, Jump}

-- the address of each item, what the way of a branch or jump that is taken leaves of the registers,
-- and the segment of the code
pub record Layout : Type 0 where
  pub address : (item : ℕ) → ℕ
  pub far : (item : ℕ) → (regs : ℕ → ℕ) → ℕ → ℕ
  pub code : Stretch

-- the registers, the number of the next item, and memory, the code's segment first
pub record Point : Type 0 where
  pub regs : ℕ → ℕ
  pub item : ℕ
  pub memory : List Stretch

-- what an item does: it goes on, also with bytes written, asks for a byte of the input, ends the
-- program, or traps
pub data Turn : Type 0 where
  Next : Point → Turn
  Written : (address len : ℕ) → List ℕ → Point → Turn
  Asked : (address : ℕ) → Turn
  Ended : ℕ → Turn
  Trapped : TrapKind → Turn

abbrev pub kind_of : Cond → BranchKind
kind_of Eq = Beq
kind_of Ne = Bne
kind_of Lt = Blt
kind_of Ge = Bge
kind_of Ltu = Bltu
kind_of Geu = Bgeu

abbrev pub is_label : ℕ → Item → Bool
is_label l (Label k) = nat_eq k l
is_label l _ = false

-- the number of the first item that is this label, counted from n
abbrev pub label_from : ℕ → List Item → ℕ → Option ℕ
label_from n [] l = None
label_from n (i ∷ is) l = if is_label l i then Some n else label_from (suc n) is l

-- the number of the first item at this address
abbrev pub address_from : ℕ → List Item → Layout → ℕ → Option ℕ
address_from n [] lay a = None
address_from n (i ∷ is) lay a =
    if nat_eq (lay.address n) a then Some n else address_from (suc n) is lay a

-- the label that an item is
abbrev pub label_of : Option Item → List ℕ
label_of (Some (Label l)) = l ∷ []
label_of _ = []

-- a point behind an item, with the registers and memory of a state
abbrev pub behind : (item : ℕ) → State → Point
behind n s = record { regs = s.regs; item = suc n; memory = s.memory }

-- where a course stands: it goes on, the program has exited with a code, or an item traps
pub data CourseEnd : Type 0 where
  Going : Point → CourseEnd
  Exited : (code : ℕ) → CourseEnd
  Stopped : TrapKind → CourseEnd

-- the bytes that a course wrote, the bytes of its input that are left, the labels that it passed,
-- in order, and where it stands
pub record Course : Type 0 where
  pub out : List ℕ
  pub left : List ℕ
  pub passed : List ℕ
  pub end : CourseEnd

abbrev pub stands : (left : List ℕ) → CourseEnd → Course
stands left end = record { out = []; left = left; passed = []; end = end }

-- a course, with bytes that were written and labels that were passed before it
abbrev pub after : (bytes labels : List ℕ) → Course → Course
after bytes labels c =
    record { out = bytes ++ c.out; left = c.left; passed = labels ++ c.passed; end = c.end }

module _ (lay : Layout) (items : List Item) where
  -- the state of the machine that stands at a point
  abbrev pub state_at : Point → State
  state_at p = record { regs = p.regs; pc = lay.address p.item; memory = p.memory }

  abbrev pub to_item : Option ℕ → (ℕ → ℕ) → Point → Turn
  to_item None regs p = Trapped (AccessOutside (lay.address p.item))
  to_item (Some n) regs p = Next (record { regs = regs; item = n; memory = p.memory })

  -- a plain instruction goes on to the item behind it
  abbrev pub behind_plain : Point → Outcome → Turn
  behind_plain p (Next' s) = Next (behind p.item s)
  behind_plain p (Written' a len bytes s) = Written a len bytes (behind p.item s)
  behind_plain p (Asked' a) = Asked a
  behind_plain p (Ended' code) = Ended code
  behind_plain p (Trapped' kind) = Trapped kind

  -- a return goes to the first item at the address in x1
  abbrev pub plain : Point → Instr → Turn
  plain p i =
      if is_return i then to_item (address_from 0 items lay (p.regs 1))
      (set_reg p.regs 0 (lay.address (suc p.item))) p
      else behind_plain p (act (state_at p) i)

  abbrev pub turn_of : Point → Option Item → Turn
  turn_of p None = Trapped (AccessOutside (lay.address p.item))
  turn_of p (Some (Label l)) = Next (record { regs = p.regs; item = suc p.item; memory = p.memory })
  turn_of p (Some (Plain i)) = plain p i
  turn_of p (Some (Branch cond left right l)) =
      if is_taken (kind_of cond) (reg (state_at p) left) (reg (state_at p) right)
      then to_item (label_from 0 items l) (lay.far p.item p.regs) p
      else Next (record { regs = p.regs; item = suc p.item; memory = p.memory })
  turn_of p (Some (Jump link l)) =
      to_item (label_from 0 items l)
      (lay.far p.item (set_reg p.regs link (lay.address (suc p.item)))) p

  unfoldable pub turn : Point → Turn
  turn p = turn_of p (slice_get items p.item)

  -- the rest of a course behind one item: where a byte is asked for, the first one that is left is
  -- given, if there is one
  abbrev pub onward : (rest : List ℕ → Point → Course) → (input : List ℕ) → Point → Turn → Course
  onward rest input p (Next q) = rest input q
  onward rest input p (Written address len bytes q) = after bytes [] (rest input q)
  onward rest input p (Asked address) =
      rest (drop 1 input) (behind p.item (given (state_at p) (slice_get input 0)))
  onward rest input p (Ended code) = stands input (Exited code)
  onward rest input p (Trapped kind) = stands input (Stopped kind)

  -- so many items from a point on an input, where an end stays
  unfoldable pub course : ℕ → (input : List ℕ) → Point → Course
  course zero input p = stands input (Going p)
  course (suc n) input p =
      after [] (label_of (slice_get items p.item)) (onward (course n) input p (turn p))

  -- no item traps, however far the course goes
  abbrev pub NeverTrapsOn : (input : List ℕ) → Point → Type 0
  NeverTrapsOn input p = (n : ℕ) (kind : TrapKind) → (course n input p).end ≢ Stopped kind

  abbrev pub NeverTraps : Point → Type 0
  NeverTraps p = (input : List ℕ) → NeverTrapsOn input p
