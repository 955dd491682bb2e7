-- Words that do what items do.
use Rattle.std.specs.Prelude.{◌≡◌, ◌≢◌, ℕ, zero, suc, ◌+◌, ◌*◌, ◌≤◌, ◌<◌, ◌%◌, ◌^◌, Bool, true, false, nat_eq, if◌then◌else◌, List, [], ◌∷◌, length, Option, Some, None, slice_get}
use Rattle.elf32.specs.File.{words as words_bytes}
use Rattle.rv32_isa.specs.declared.instr.Instr.TheVariants.{Auipc, Jal, Jalr, Branch as Branch'}
use Rattle.rv32_machine.specs.Memory.{Stretch, end_of}
use Rattle.rv32_machine.specs.Arithmetic.{is_taken}
use Rattle.rv32_machine.specs.Steps.{State, Next as Next', Written as Written', Asked as Asked', Ended as Ended', step, reg}
use Rattle.rv32_steps.specs.Trace.{is_return, instruction_at, writes_link, returns as returns'}
use Rattle.rv32_items.specs.declared.Item.{Item}
use Rattle.rv32_items.specs.declared.Item.TheVariants.{Label, Plain, Branch, Jump}
use Rattle.rv32_items.specs.Course.{Layout, Point, Turn, Next, Written, Asked, Ended, Trapped, turn, state_at, kind_of}
use Rattle.rv32_items.specs.Told.{is_call, returns}
use Rattle.limits.specs.Limits.{code_start}

-- ---- what can be placed

-- how many words an item takes at most
abbrev pub size : Item → ℕ
size (Label l) = 0
size (Plain i) = 1
size (Branch cond left right l) = 3
size (Jump link l) = 3

abbrev pub size_of : List Item → ℕ
size_of [] = 0
size_of (i ∷ is) = size i + size_of is

-- an item that is an instruction, and not a label
abbrev pub is_instruction : Option Item → Bool
is_instruction None = false
is_instruction (Some (Label l)) = false
is_instruction (Some _) = true

abbrev pub is_jump : Item → Bool
is_jump (Jump link l) = true
is_jump _ = false

-- a plain item is neither AUIPC nor a branch nor a jump, but for a return
abbrev pub IsPlain : Item → Type 0
IsPlain (Plain (Auipc rd imm)) = ⊥
IsPlain (Plain (Jal rd off)) = ⊥
IsPlain (Plain (Branch' kind rs1 rs2 off)) = ⊥
IsPlain (Plain (Jalr rd rs1 imm)) = is_return (Jalr rd rs1 imm) ≡ true
IsPlain _ = Unit {0}

-- the label to which an item may go
abbrev pub target_of : Item → Option ℕ
target_of (Branch cond left right l) = Some l
target_of (Jump link l) = Some l
target_of _ = None

-- how often a label stands
abbrev pub times : ℕ → List Item → ℕ
times l [] = 0
times l (Label k ∷ is) = if nat_eq k l then suc (times l is) else times l is
times l (_ ∷ is) = times l is

-- each label that is used stands once
abbrev pub LabelsStand : List Item → Type 0
LabelsStand items =
    (n l : ℕ) (i : Item) → slice_get items n ≡ Some i → target_of i ≡ Some l → times l items ≡ 1

-- a label stands at item n alone
pub record LabelIsOnlyAt (items : List Item) (l n : ℕ) : Type 0 where
  pub here : slice_get items n ≡ Some (Label l)
  pub once : (k : ℕ) → slice_get items k ≡ Some (Label l) → k ≡ n

abbrev pub AllPlain : List Item → Type 0
AllPlain items = (n : ℕ) (i : Item) → slice_get items n ≡ Some i → IsPlain i

-- ---- where items stand

-- addresses from the code's first on, each a multiple of four: a label takes no word, every other
-- item at least one and at most its size. A branch or jump that is taken changes x7 at most beside
-- its link, and x0, which reads zero
pub record AddressesRise (items : List Item) (lay : Layout) : Type 0 where
  pub first : lay.address 0 ≡ lay.code.first
  pub fixed : lay.code.write ≡ false
  pub runs : lay.code.exec ≡ true
  pub fours : (n : ℕ) → lay.address n % 4 ≡ 0
  pub labels : (n l : ℕ) → slice_get items n ≡ Some (Label l) → lay.address (suc n) ≡ lay.address n
  pub rises : (n : ℕ) → is_instruction (slice_get items n) ≡ true
      → lay.address n + 4 ≤ lay.address (suc n)
  pub sizes : (n : ℕ) (i : Item) → slice_get items n ≡ Some i
      → lay.address (suc n) ≤ lay.address n + 4 * size i
  pub last : lay.address (length items) ≡ end_of lay.code
  pub below : end_of lay.code < 2 ^ 32
  pub far_keeps : (n r : ℕ) (regs : ℕ → ℕ) → r ≢ 0 → r ≢ 7 → lay.far n regs r ≡ regs r

-- ---- what the words do

-- the last instruction of an item: it is a return just where the item is one, links x1 just where
-- the item is a call, and stands at the item's end where that is a jump
pub record Closes (i : Item) (end : ℕ) (s : State) : Type 0 where
  pub returning : returns' (instruction_at s) ≡ returns (Some i)
  pub linking : writes_link (instruction_at s) ≡ is_call (Some i)
  pub at_end : is_jump i ≡ true → s.pc + 4 ≡ end

-- in so many steps that only go on, at rising addresses of which the last is below `end`, from s to
-- t: none for a label, and at least one for an instruction
abbrev pub StepsAtRisingPcs : Item → ℕ → (end : ℕ) → State → State → Type 0
StepsAtRisingPcs i zero end s t = (is_instruction (Some i) ≡ false) × (s ≡ t)
StepsAtRisingPcs i (suc zero) end s t = (s.pc < end) × ((step s ≡ Next' t) × Closes i end s)
StepsAtRisingPcs i (suc (suc k)) end s t =
    (u : State) × ((s.pc < u.pc) × ((step s ≡ Next' u)
    × ((returns' (instruction_at s) ≡ false) × StepsAtRisingPcs i (suc k) end u t)))

-- the machine does what the turn of item n says, in k steps within the item's words
abbrev pub Does : Layout → (items : List Item) → (n : ℕ) → Item → (k : ℕ) → State → Turn → Type 0
Does lay items n i k s (Next p) =
    StepsAtRisingPcs i k (lay.address (suc n)) s (state_at lay items p)
Does lay items n i k s (Written a len bytes p) =
    (k ≡ 1) × (step s ≡ Written' a len bytes (state_at lay items p))
Does lay items n i k s (Asked a) = (k ≡ 1) × (step s ≡ Asked' a)
Does lay items n i k s (Ended code) = (k ≡ 1) × (step s ≡ Ended' code)
Does lay items n i k s (Trapped kind) = Unit {0}

-- how many steps an item does at most: a branch that is not taken is one
abbrev pub steps : State → Item → ℕ
steps s (Branch cond left right l) =
    if is_taken (kind_of cond) (reg s left) (reg s right) then 3 else 1
steps s i = size i

-- the words are those of the code's segment, and do item by item what the items do
pub record Placed (items : List Item) (words : List ℕ) : Type 0 where
  pub lay : Layout
  pub at_first : lay.code.first ≡ code_start
  pub code : lay.code.bytes ≡ words_bytes words
  pub rises : AddressesRise items lay
  pub few : length words ≤ size_of items
  pub some : (n : ℕ) → is_instruction (slice_get items n) ≡ true → 0 < length words
  pub does : (p : Point) (i : Item) (rest : List Stretch) → p.memory ≡ lay.code ∷ rest
      → slice_get items p.item ≡ Some i →
      (k : ℕ) × ((k ≤ steps (state_at lay items p) i)
      × Does lay items p.item i k (state_at lay items p) (turn lay items p))
