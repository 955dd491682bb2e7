-- By which instructions an item does what it says. Words are counted from the first one of the
-- code, which stands at `code_start`.
use Rattle.std.specs.Prelude.{ℕ, ℤ, pos, negsuc, ◌+◌, ◌-◌, ◌*◌, ◌/◌, ◌%◌, ◌^◌, ◌<◌, ◌≤◌, Bool, ◌&&◌, nat_eq, nat_lt, nat_le, if◌then◌else◌, List, [], ◌∷◌}
use Rattle.rv32_isa.specs.Bits.{lower}
use Rattle.rv32_isa.specs.declared.instr.Instr.{Instr}
use Rattle.rv32_isa.specs.declared.instr.Instr.TheVariants.{Auipc, Jal, Jalr, Branch as Branch'}
use Rattle.rv32_items.specs.declared.Cond.{Cond}
use Rattle.rv32_items.specs.declared.Cond.TheVariants.{Eq, Ne, Lt, Ge, Ltu, Geu}
use Rattle.rv32_items.specs.declared.Item.{Item}
use Rattle.rv32_items.specs.declared.Item.TheVariants.{Label, Plain, Branch, Jump}
use Rattle.rv32_items.specs.Course.{kind_of}
use Rattle.rv32_layout.specs.declared.form.Way.{Way}
use Rattle.rv32_layout.specs.declared.form.Way.TheVariants.{ByBranch, ByJump, ByAddress}

-- ---- reach

-- an instruction that goes so many words back, and one less on, gets from word to word
abbrev pub Within : (range from to : ℕ) → Type 0
Within range from to = (to < from + range) × (from ≤ to + range)

-- how many words a branch and a jump go
abbrev pub branch_range : ℕ
branch_range = 1024

abbrev pub jump_range : ℕ
jump_range = 262144

-- an item begins at word `at`, ends before word `end` and goes to word `to`. Its last word, which
-- will be the one `before` words behind its first, is in range of `to`, and stays so while
-- distances shrink
abbrev pub reaches : (range before at end to : ℕ) → Bool
reaches range before at end to = nat_lt (to + 1) (end + range) && nat_le (at + before) (to + range)

-- ---- instructions

-- from word to word in bytes, as a branch or a jump takes it
abbrev pub offset : (from to : ℕ) → ℤ
offset from to = if nat_le from to then pos (4 * (to - from)) else negsuc (4 * (from - to) - 1)

-- from word to word in bytes, as a word: the upper 20 bits that AUIPC adds, and the lower 12, which
-- have a sign
abbrev pub distance : (from to : ℕ) → ℕ
distance from to = (4 * to + (2 ^ 32 - 4 * from)) % 2 ^ 32

abbrev pub upper : ℕ → ℕ
upper u = (u + 2048) % 2 ^ 32 / 4096

abbrev pub opposite : Cond → Cond
opposite Eq = Ne
opposite Ne = Eq
opposite Lt = Ge
opposite Ge = Lt
opposite Ltu = Geu
opposite Geu = Ltu

-- the register that takes an address on the way: the link, or x7 where that is x0
abbrev pub carrier : (link : ℕ) → ℕ
carrier link = if nat_eq link 0 then 7 else link

abbrev pub by_address : (through link from to : ℕ) → List Instr
by_address through link from to =
    Auipc through (upper (distance from to)) ∷ Jalr link through (lower (distance from to)) ∷ []

-- a branch whose first word is word `at`, on its way to word `to`
abbrev pub branch_code : Way → (at to : ℕ) → Cond → (left right : ℕ) → List Instr
branch_code ByBranch at to cond left right = Branch' (kind_of cond) left right (offset at to) ∷ []
branch_code ByJump at to cond left right =
    Branch' (kind_of (opposite cond)) left right (pos 8) ∷ Jal 0 (offset (at + 1) to) ∷ []
branch_code ByAddress at to cond left right =
    Branch' (kind_of (opposite cond)) left right (pos 12) ∷ by_address 7 0 (at + 1) to

abbrev pub jump_code : Way → (at to link : ℕ) → List Instr
jump_code ByBranch at to link = Jal link (offset at to) ∷ []
jump_code ByJump at to link = Jal link (offset at to) ∷ []
jump_code ByAddress at to link = by_address (carrier link) link at to

abbrev pub instructions : Way → (at to : ℕ) → Item → List Instr
instructions way at to (Label l) = []
instructions way at to (Plain i) = i ∷ []
instructions way at to (Branch cond left right l) = branch_code way at to cond left right
instructions way at to (Jump link l) = jump_code way at to link

-- how many words these are
abbrev pub branch_width : Way → ℕ
branch_width ByBranch = 1
branch_width ByJump = 2
branch_width ByAddress = 3

abbrev pub jump_width : Way → ℕ
jump_width ByBranch = 1
jump_width ByJump = 1
jump_width ByAddress = 2

abbrev pub width : Way → Item → ℕ
width way (Label l) = 0
width way (Plain i) = 1
width way (Branch cond left right l) = branch_width way
width way (Jump link l) = jump_width way

-- what a way asks of the distance
abbrev pub BranchGoes : Way → (at to : ℕ) → Type 0
BranchGoes ByBranch at to = Within branch_range at to
BranchGoes ByJump at to = Within jump_range (at + 1) to
BranchGoes ByAddress at to = Unit {0}

abbrev pub JumpGoes : Way → (at to : ℕ) → Type 0
JumpGoes ByBranch at to = Within jump_range at to
JumpGoes ByJump at to = Within jump_range at to
JumpGoes ByAddress at to = Unit {0}

abbrev pub CanGo : Way → (at to : ℕ) → Item → Type 0
CanGo way at to (Label l) = Unit {0}
CanGo way at to (Plain i) = Unit {0}
CanGo way at to (Branch cond left right l) = BranchGoes way at to
CanGo way at to (Jump link l) = JumpGoes way at to

-- the shortest way of an item that begins at word `at`, ends before word `end` and goes to word
-- `to`
abbrev pub shortest : (at end to : ℕ) → Item → Way
shortest at end to (Label l) = ByBranch
shortest at end to (Plain i) = ByBranch
shortest at end to (Branch cond left right l) =
    if reaches branch_range 0 at end to then ByBranch
    else if reaches jump_range 1 at end to then ByJump
    else ByAddress
shortest at end to (Jump link l) = if reaches jump_range 0 at end to then ByJump else ByAddress
