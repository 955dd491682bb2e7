-- The instructions and items of each piece of low code, in their cheapest forms. x1 is a return
-- address, x2 the address of the frame, x3 that of the next cell, x4 the heap's end and x5 the
-- scratch spot; x6 and x7 are for one piece at a time, x7 for the address of a far slot.
use Rattle.std.specs.Prelude.{ℕ, zero, suc, ◌+◌, ◌-◌, ◌*◌, ◌/◌, ◌%◌, ℤ, pos, negsuc, Bool, true, false, ◌||◌, nat_eq, nat_lt, if◌then◌else◌, List, [], ◌∷◌, ◌++◌, map, length}
use Rattle.rv32_isa.specs.Bits.{lower}
use Rattle.rv32_isa.specs.declared.instr.Instr.{Instr}
use Rattle.rv32_isa.specs.declared.instr.Instr.TheVariants.{Lui, Load, Store, OpImm, Op, Jalr, Ecall}
use Rattle.rv32_isa.specs.declared.instr.LoadKind.TheVariants.{Lw}
use Rattle.rv32_isa.specs.declared.instr.StoreKind.TheVariants.{Sw}
use Rattle.rv32_isa.specs.declared.instr.ImmKind.TheVariants.{Addi, Slti, Sltiu}
use Rattle.rv32_isa.specs.declared.instr.OpKind.TheVariants as op
use Rattle.low_code.specs.declared.program.PrimOp.{PrimOp}
use Rattle.low_code.specs.declared.program.PrimOp.TheVariants.{Add, Sub, Mul, Quot, Rem, Eq, Lt}
use Rattle.parallel_move.specs.declared.Spot.{Spot}
use Rattle.parallel_move.specs.declared.Spot.TheVariants.{Reg, Slot, Scratch}
use Rattle.parallel_move.specs.declared.Move.{Move}
use Rattle.rv32_select.specs.declared.source.Source.{Source}
use Rattle.rv32_select.specs.declared.source.Source.TheVariants.{At, Number}
use Rattle.rv32_items.specs.declared.Cond.{Cond}
use Rattle.rv32_items.specs.declared.Cond.TheVariants.{Eq, Ne, Ltu}
use Rattle.rv32_items.specs.declared.Item.{Item}
use Rattle.rv32_items.specs.declared.Item.TheVariants.{Label, Plain, Branch}
use Rattle.rv32_machine.specs.Arithmetic.{negated}

abbrev pub plain : List Instr → List Item
plain is = map Plain is

-- ---- numbers

-- a word that is a signed number of 12 bits
abbrev pub is_short : ℕ → Bool
is_short n = nat_lt n 2048 || nat_lt 4294965247 n

-- what the upper 20 bits are beside the signed number of the lower 12
abbrev pub upper : ℕ → ℕ
upper n = (n + 2048) / 4096 % 1048576

-- a register gets a number
abbrev pub load_constant : (r n : ℕ) → List Instr
load_constant r n =
    if is_short n then OpImm Addi r 0 (lower n) ∷ []
    else Lui r (upper n) ∷ (if nat_eq (n % 4096) 0 then [] else OpImm Addi r r (lower n) ∷ [])

-- a register gets the sum of another one and a number
abbrev pub add_to : (r q n : ℕ) → List Instr
add_to r q n =
    if is_short n then OpImm Addi r q (lower n) ∷ [] else load_constant 5 n ++ Op op.Add r q 5 ∷ []

-- ---- spots

-- a register gets what another one has
abbrev pub copy : (r q : ℕ) → List Instr
copy r q = if nat_eq r q then [] else OpImm Addi r q (pos 0) ∷ []

-- slot k is the frame's word k + 1: the register from which it is reached, and what is done before
abbrev pub slot_bytes : ℕ → ℕ
slot_bytes k = 4 * (1 + k)

abbrev pub slot_base : ℕ → ℕ
slot_base k = if nat_lt (slot_bytes k) 2048 then 2 else 7

abbrev pub reach : ℕ → List Instr
reach k =
    if nat_lt (slot_bytes k) 2048 then [] else Lui 7 (upper (slot_bytes k)) ∷ Op op.Add 7 7 2 ∷ []

abbrev pub load_slot : (r k : ℕ) → List Instr
load_slot r k = reach k ++ Load Lw r (slot_base k) (lower (slot_bytes k)) ∷ []

abbrev pub store_slot : (k r : ℕ) → List Instr
store_slot k r = reach k ++ Store Sw r (slot_base k) (lower (slot_bytes k)) ∷ []

-- a register gets what stands at a spot
abbrev pub from_spot : (r : ℕ) → Spot → List Instr
from_spot r (Reg q) = copy r q
from_spot r (Slot k) = load_slot r k
from_spot r Scratch = copy r 5

abbrev pub slot_from : (k : ℕ) → Spot → List Instr
slot_from k (Reg q) = store_slot k q
slot_from k (Slot j) = if nat_eq k j then [] else load_slot 6 j ++ store_slot k 6
slot_from k Scratch = store_slot k 5

abbrev pub move_to : (to from : Spot) → List Instr
move_to (Reg r) from = from_spot r from
move_to (Slot k) from = slot_from k from
move_to Scratch from = from_spot 5 from

abbrev pub moves_code : List Move → List Instr
moves_code [] = []
moves_code (m ∷ ms) = move_to m.to m.from ++ moves_code ms

-- a result for a place is computed in this register, r where the place is none, and then put there
abbrev pub target : (r : ℕ) → Spot → ℕ
target r (Reg q) = q
target r (Slot k) = r
target r Scratch = r

abbrev pub keep : (r : ℕ) → Spot → List Instr
keep r (Reg q) = []
keep r (Slot k) = store_slot k r
keep r Scratch = []

-- ---- operands

-- the register in which an operand is read, r where it isn't in one, and what is done before
abbrev pub held : (r : ℕ) → Source → ℕ
held r (At (Reg q)) = q
held r (At (Slot k)) = r
held r (At Scratch) = 5
held r (Number n) = if nat_eq n 0 then 0 else r

abbrev pub hold : (r : ℕ) → Source → List Instr
hold r (At (Reg q)) = []
hold r (At (Slot k)) = load_slot r k
hold r (At Scratch) = []
hold r (Number n) = if nat_eq n 0 then [] else load_constant r n

-- a number goes to a place
abbrev pub number_into : Spot → ℕ → List Instr
number_into (Reg q) n = load_constant q n
number_into (Slot k) n = hold 5 (Number n) ++ store_slot k (held 5 (Number n))
number_into Scratch n = load_constant 5 n

-- of operands that go to spots at once: the moves from spots, and behind them the numbers
abbrev pub move_from : (to : Spot) → Source → List Move
move_from to (At s) = record { to = to; from = s } ∷ []
move_from to (Number n) = []

abbrev pub number_from : (to : Spot) → Source → List Instr
number_from to (At s) = []
number_from to (Number n) = number_into to n

abbrev pub spot_moves : (to : List Spot) → List Source → List Move
spot_moves [] ss = []
spot_moves (t ∷ to) [] = []
spot_moves (t ∷ to) (s ∷ ss) = move_from t s ++ spot_moves to ss

abbrev pub number_moves : (to : List Spot) → List Source → List Instr
number_moves [] ss = []
number_moves (t ∷ to) [] = []
number_moves (t ∷ to) (s ∷ ss) = number_from t s ++ number_moves to ss

-- ---- statements

abbrev pub set_code : (to : Spot) → Source → List Instr
set_code to (At s) = move_to to s
set_code to (Number n) = number_into to n

-- an operation on two registers, and one on a register and a number, where there is one
abbrev pub operation : PrimOp → (t q r : ℕ) → List Instr
operation Add t q r = Op op.Add t q r ∷ []
operation Sub t q r = Op op.Sub t q r ∷ []
operation Mul t q r = Op op.Mul t q r ∷ []
operation Quot t q r = Op op.Div t q r ∷ []
operation Rem t q r = Op op.Rem t q r ∷ []
operation Eq t q r = Op op.Sub t q r ∷ OpImm Sltiu t t (pos 1) ∷ []
operation Lt t q r = Op op.Slt t q r ∷ []

abbrev pub is_immediate : PrimOp → ℕ → Bool
is_immediate Add n = is_short n
is_immediate Sub n = is_short (negated n)
is_immediate Mul n = false
is_immediate Quot n = false
is_immediate Rem n = false
is_immediate Eq n = is_short (negated n)
is_immediate Lt n = is_short n

abbrev pub immediate : PrimOp → (t q n : ℕ) → List Instr
immediate Add t q n = OpImm Addi t q (lower n) ∷ []
immediate Sub t q n = OpImm Addi t q (lower (negated n)) ∷ []
immediate Mul t q n = []
immediate Quot t q n = []
immediate Rem t q n = []
immediate Eq t q n =
    if nat_eq n 0 then OpImm Sltiu t q (pos 1) ∷ []
    else OpImm Addi t q (lower (negated n)) ∷ OpImm Sltiu t t (pos 1) ∷ []
immediate Lt t q n = OpImm Slti t q (lower n) ∷ []

abbrev pub operands_held : PrimOp → (t : ℕ) → (left right : Source) → List Instr
operands_held f t left right =
    hold 5 left ++ (hold 6 right ++ operation f t (held 5 left) (held 6 right))

abbrev pub operate_on : PrimOp → (t : ℕ) → (left right : Source) → List Instr
operate_on f t left (At s) = operands_held f t left (At s)
operate_on f t left (Number n) =
    if is_immediate f n then hold 5 left ++ immediate f t (held 5 left) n
    else operands_held f t left (Number n)

-- where the order of the operands is free, a number stands on the right
abbrev pub is_free : PrimOp → Bool
is_free Add = true
is_free Sub = false
is_free Mul = true
is_free Quot = false
is_free Rem = false
is_free Eq = true
is_free Lt = false

abbrev pub operate_in_order : PrimOp → (t : ℕ) → (left right : Source) → List Instr
operate_in_order f t (At s) right = operate_on f t (At s) right
operate_in_order f t (Number n) right =
    if is_free f then operate_on f t right (Number n) else operate_on f t (Number n) right

abbrev pub prim_code : PrimOp → (to : Spot) → (left right : Source) → List Instr
prim_code f to left right = operate_in_order f (target 5 to) left right ++ keep 5 to

-- a word of a cell, of which there are no 512: the low bits of an address that is a number are in
-- the offset, where there is room for them
abbrev pub low_bits : (index n : ℕ) → ℕ
low_bits k n = if nat_lt (n % 2048 + 4 * (k % 512)) 2048 then n % 2048 else 0

abbrev pub low_part : (index : ℕ) → Source → ℕ
low_part k (At s) = 0
low_part k (Number n) = low_bits k n

abbrev pub high_part : (index : ℕ) → Source → Source
high_part k (At s) = At s
high_part k (Number n) = Number (n - low_bits k n)

abbrev pub word_offset : (index : ℕ) → Source → ℤ
word_offset k cell = pos (low_part k cell + 4 * (k % 512))

abbrev pub load_code : (to : Spot) → (cell : Source) → (index : ℕ) → List Instr
load_code to cell k =
    hold 5 (high_part k cell)
    ++ (Load Lw (target 5 to) (held 5 (high_part k cell)) (word_offset k cell) ∷ keep 5 to)

abbrev pub save_code : (cell : Source) → (index : ℕ) → Source → List Instr
save_code cell k word =
    hold 5 (high_part k cell) ++ (hold 6 word
    ++ Store Sw (held 6 word) (held 5 (high_part k cell)) (word_offset k cell) ∷ [])

-- ---- taking cells

-- x5 gets the end of so many bytes of cells, and where the heap ends before it the heap is full
abbrev pub room_items : (bytes heap_full : ℕ) → List Item
room_items bytes heap_full = plain (add_to 5 3 bytes) ++ Branch Ltu 4 5 heap_full ∷ []

-- a place gets the address of a cell, so many bytes behind x3; before an offset is none of 12 bits,
-- x3 goes on
abbrev pub is_offset : ℕ → Bool
is_offset off = nat_lt off 2048

abbrev pub next_offset : (step off : ℕ) → ℕ
next_offset step off = if is_offset (off + step) then off + step else 0

abbrev pub go_on : (step off : ℕ) → List Instr
go_on step off =
    if is_offset (off + step) then [] else OpImm Addi 3 3 (pos off) ∷ OpImm Addi 3 3 (pos step) ∷ []

abbrev pub cells_code : (step off : ℕ) → List Spot → List Instr
cells_code step off [] = []
cells_code step off (s ∷ ss) =
    OpImm Addi (target 6 s) 3 (pos off)
    ∷ (keep 6 s ++ (go_on step off ++ cells_code step (next_offset step off) ss))

abbrev pub far_cells : (step heap_full : ℕ) → List Spot → List Item
far_cells step heap_full ss =
    room_items (step * length ss) heap_full
    ++ plain (cells_code step 0 ss ++ OpImm Addi 3 5 (pos 0) ∷ [])

-- x3 goes on by so many bytes, and where the heap ends before it the heap is full
abbrev pub raise_items : (bytes heap_full : ℕ) → List Item
raise_items bytes heap_full = Plain (OpImm Addi 3 3 (pos bytes)) ∷ Branch Ltu 4 3 heap_full ∷ []

-- places get the addresses of the cells that end at x3
abbrev pub cells_below : (step : ℕ) → List Spot → List Instr
cells_below step [] = []
cells_below step (s ∷ ss) =
    OpImm Addi (target 6 s) 3 (lower (negated (step * suc (length ss))))
    ∷ (keep 6 s ++ cells_below step ss)

abbrev pub near_cells : (step heap_full : ℕ) → List Spot → List Item
near_cells step heap_full ss =
    raise_items (step * length ss) heap_full ++ plain (cells_below step ss)

-- x3 goes first where one number takes it past all cells
abbrev pub take_items : (step heap_full : ℕ) → List Spot → List Item
take_items step heap_full ss =
    if is_offset (step * length ss) then near_cells step heap_full ss
    else far_cells step heap_full ss

-- ---- calls to the machine

-- the registers of a call wait in x4 to x7; then they come back, and x4 is made anew
abbrev pub aside : List Instr
aside =
    OpImm Addi 5 10 (pos 0) ∷ OpImm Addi 6 11 (pos 0) ∷ OpImm Addi 7 12 (pos 0)
    ∷ OpImm Addi 4 17 (pos 0) ∷ []

abbrev pub back : (heap_end : ℕ) → List Instr
back heap_end =
    OpImm Addi 10 5 (pos 0) ∷ OpImm Addi 11 6 (pos 0) ∷ OpImm Addi 12 7 (pos 0)
    ∷ OpImm Addi 17 4 (pos 0) ∷ load_constant 4 heap_end

-- a call of this number and file on one byte at the frame's first word
abbrev pub call_code : (file call : ℕ) → List Instr
call_code file call =
    OpImm Addi 10 0 (pos file) ∷ OpImm Addi 11 2 (pos 0) ∷ OpImm Addi 12 0 (pos 1)
    ∷ OpImm Addi 17 0 (pos call) ∷ Ecall ∷ []

-- the frame's first word is the byte's while the return address is in x1
abbrev pub put_code : (heap_end : ℕ) → Source → List Instr
put_code heap_end word =
    Load Lw 1 2 (pos 0)
    ∷ (hold 5 word ++ (Store Sw (held 5 word) 2 (pos 0)
    ∷ (aside ++ (call_code 1 64 ++ (back heap_end ++ Store Sw 1 2 (pos 0) ∷ [])))))

-- where a byte was given it is the frame's first word, and 1 is in x10; else both are 0: x1 gets
-- the sum of that word and x10 less one, and the frame's first word is the return address again
abbrev pub byte_given : List Instr
byte_given =
    Load Lw 17 2 (pos 0) ∷ Store Sw 1 2 (pos 0) ∷ OpImm Addi 10 10 (negsuc 0)
    ∷ Op op.Add 1 10 17 ∷ []

abbrev pub get_code : (heap_end : ℕ) → (to : Spot) → List Instr
get_code heap_end to =
    Load Lw 1 2 (pos 0) ∷ Store Sw 0 2 (pos 0)
    ∷ (aside ++ (call_code 0 63 ++ (byte_given ++ (back heap_end ++ move_to to (Reg 1)))))

abbrev pub exit_with : ℕ → List Item
exit_with code = plain (OpImm Addi 10 0 (pos code) ∷ OpImm Addi 17 0 (pos 93) ∷ Ecall ∷ [])

-- ---- procedures

-- the argument for a parameter comes in its place, or, where that is none of the registers, in x8
-- and up; then it is put there
abbrev pub argument_spot : (i : ℕ) → Spot → Spot
argument_spot i (Reg r) = Reg r
argument_spot i (Slot k) = Reg (8 + i)
argument_spot i Scratch = Reg (8 + i)

abbrev pub argument_spots : (i : ℕ) → List Spot → List Spot
argument_spots i [] = []
argument_spots i (s ∷ ss) = argument_spot i s ∷ argument_spots (suc i) ss

abbrev pub parameters_code : (i : ℕ) → List Spot → List Instr
parameters_code i [] = []
parameters_code i (s ∷ ss) = keep (8 + i) s ++ parameters_code (suc i) ss

-- so many results, from x10 on
abbrev pub result_spots : (r n : ℕ) → List Spot
result_spots r zero = []
result_spots r (suc n) = Reg r ∷ result_spots (suc r) n

-- the return address goes to the frame's first word, and comes back
abbrev pub put_link : List Instr
put_link = Store Sw 1 2 (pos 0) ∷ []

abbrev pub take_link : List Instr
take_link = Load Lw 1 2 (pos 0) ∷ []

-- in a framed procedure it is there from the entry to the end; in another one it stays in x1
abbrev pub link_put : (framed : Bool) → List Instr
link_put true = put_link
link_put false = []

abbrev pub link_taken : (framed : Bool) → List Instr
link_taken true = take_link
link_taken false = []

-- the stack's base is in x27 from the start on, or each entry puts it into x5
abbrev pub base_register : (lasting : Bool) → ℕ
base_register true = 27
base_register false = 5

abbrev pub base_at_start : (lasting : Bool) → (stack_base : ℕ) → List Instr
base_at_start true stack_base = load_constant 27 stack_base
base_at_start false stack_base = []

abbrev pub base_at_entry : (lasting : Bool) → (stack_base : ℕ) → List Instr
base_at_entry true stack_base = []
base_at_entry false stack_base = load_constant 5 stack_base

-- x2 goes down by the frame; where it is then below the stack, the stack is full
abbrev pub entry_items : (label words : ℕ) → (framed lasting : Bool) → (stack_base stack_full : ℕ)
    → (params : List Spot) → List Item
entry_items label words framed lasting stack_base stack_full params =
    Label label ∷ (plain (add_to 2 2 (negated (4 * words)) ++ base_at_entry lasting stack_base)
    ++ Branch Ltu 2 (base_register lasting) stack_full
    ∷ plain (link_put framed ++ parameters_code 0 params))

-- the return address is in x1 again, and x2 goes up
abbrev pub leave_code : (framed : Bool) → (words : ℕ) → List Instr
leave_code framed words = link_taken framed ++ add_to 2 2 (4 * words)

abbrev pub return_items : (framed : Bool) → (words : ℕ) → List Item
return_items framed words = plain (leave_code framed words) ++ Plain (Jalr 0 1 (pos 0)) ∷ []

-- registers are saved in the slots from `first` on, and come back
abbrev pub save_moves : (first : ℕ) → List ℕ → List Move
save_moves first [] = []
save_moves first (r ∷ rs) = record { to = Slot first; from = Reg r } ∷ save_moves (suc first) rs

abbrev pub restore_moves : (first : ℕ) → List ℕ → List Move
restore_moves first [] = []
restore_moves first (r ∷ rs) =
    record { to = Reg r; from = Slot first } ∷ restore_moves (suc first) rs

-- ---- choices

-- words that compare so go on to the label
abbrev pub branch_items : Cond → (next : ℕ) → (left right : Source) → List Item
branch_items cond next left right =
    plain (hold 5 left ++ hold 6 right) ++ Branch cond (held 5 left) (held 6 right) next ∷ []

-- a word that compares so with this number goes on to the label
abbrev pub compare_items : Cond → (next : ℕ) → (word : Source) → ℕ → List Item
compare_items cond next word n = branch_items cond next word (Number n)

-- one that isn't the number, and one that is it
abbrev pub test_items : (next : ℕ) → (word : Source) → ℕ → List Item
test_items next word n = compare_items Ne next word n

abbrev pub match_items : (next : ℕ) → (word : Source) → ℕ → List Item
match_items next word n = compare_items Eq next word n

-- ---- start-up and stops

-- the tags of the globals, each in a cell of so many bytes
abbrev pub globals_code : (step : ℕ) → List ℕ → List Instr
globals_code step [] = []
globals_code step (t ∷ ts) =
    hold 6 (Number t)
    ++ (Store Sw (held 6 (Number t)) 3 (pos 0) ∷ OpImm Addi 3 3 (pos step) ∷ globals_code step ts)

-- the frames' end, the next cell and the heap's end; then the globals, where there is room for them
abbrev pub start_items : (stack_end heap_base heap_end step heap_full : ℕ)
    → (globals : List ℕ) → List Item
start_items stack_end heap_base heap_end step heap_full globals =
    plain (load_constant 2 stack_end ++ (load_constant 3 heap_base ++ load_constant 4 heap_end))
    ++ (room_items (step * length globals) heap_full ++ plain (globals_code step globals))

-- the exits without an alternative and with a full heap or stack, at three labels
abbrev pub stop_items : (first : ℕ) → List Item
stop_items first =
    Label first
    ∷ (exit_with 3 ++ Label (1 + first) ∷ (exit_with 4 ++ Label (2 + first) ∷ exit_with 5))
