-- The code of each piece goes straight on, and has no more instructions than so many.
use Rattle.std.proofs.Common.{ℕ, suc, ◌+◌, ◌*◌, ◌≤◌, Bool, true, false, List, [], ◌∷◌, ◌++◌, length, arith, length-append}
use Rattle.std.specs.Prelude.{nat_eq, if◌then◌else◌}
use Rattle.rv32_isa.specs.declared.instr.Instr.{Instr}
use Rattle.rv32_isa.specs.declared.instr.Instr.TheVariants.{Lui, Auipc, Jal, Jalr, Branch, Load, Store, OpImm, Shift, Op, Fence, Ecall, Ebreak}
use Rattle.low_code.specs.declared.program.PrimOp.{PrimOp}
use Rattle.low_code.specs.declared.program.PrimOp.TheVariants.{Add, Sub, Mul, Quot, Rem, Eq, Lt}
use Rattle.parallel_move.specs.declared.Spot.{Spot}
use Rattle.parallel_move.specs.declared.Spot.TheVariants.{Reg, Slot, Scratch}
use Rattle.parallel_move.specs.declared.Move.{Move}
use Rattle.parallel_move.specs.Moves.{spot_cost, ends}
use Rattle.rv32_select.specs.declared.source.Source.{Source}
use Rattle.rv32_select.specs.declared.source.Source.TheVariants.{At, Number}
use Rattle.rv32_select.specs.Emit.{link_put, is_short, load_constant, add_to, copy, reach, load_slot, store_slot, move_to, moves_code, keep, held, hold, number_into, spot_moves, number_moves, set_code, operation, is_immediate, immediate, operands_held, operate_on, is_free, operate_in_order, target, prim_code, high_part, load_code, save_code, is_offset, go_on, next_offset, cells_code, cells_below, aside, back, call_code, put_code, byte_given, get_code, parameters_code, leave_code, save_moves, restore_moves, globals_code, base_at_entry, base_at_start}

-- neither a branch nor a jump, nor AUIPC
abbrev pub IsStraight : Instr → Type 0
IsStraight (Lui rd imm) = Unit {0}
IsStraight (Auipc rd imm) = ⊥
IsStraight (Jal rd off) = ⊥
IsStraight (Jalr rd rs1 imm) = ⊥
IsStraight (Branch kind rs1 rs2 off) = ⊥
IsStraight (Load kind rd rs1 imm) = Unit {0}
IsStraight (Store kind rs2 rs1 imm) = Unit {0}
IsStraight (OpImm kind rd rs1 imm) = Unit {0}
IsStraight (Shift kind rd rs1 amount) = Unit {0}
IsStraight (Op kind rd rs1 rs2) = Unit {0}
IsStraight (Fence top rs1 rd) = Unit {0}
IsStraight Ecall = Unit {0}
IsStraight Ebreak = Unit {0}

abbrev pub AllStraight : List Instr → Type 0
AllStraight [] = Unit {0}
AllStraight (i ∷ is) = IsStraight i × AllStraight is

pub record Piece (most : ℕ) (code : List Instr) : Type 0 where
  pub straight : AllStraight code
  pub few : length code ≤ most

pub piece_nil : (k : ℕ) → Piece k []
piece_nil k = record { straight = tt; few = omega arith }

pub piece_one : (i : Instr) → IsStraight i → Piece 1 (i ∷ [])
piece_one i h = record { straight = (h, tt); few = omega arith }

pub piece_cons : (k : ℕ) (i : Instr) (is : List Instr) → IsStraight i → Piece k is
    → Piece (suc k) (i ∷ is)
piece_cons k i is h p = record { straight = (h, p.straight); few = omega (arith, p.few) }

straight_append : (a b : List Instr) → AllStraight a → AllStraight b → AllStraight (a ++ b)
straight_append [] b h k = k
straight_append (i ∷ a) b h k = (h.0, straight_append a b h.1 k)

pub piece_append : (j k : ℕ) (a b : List Instr) → Piece j a → Piece k b → Piece (j + k) (a ++ b)
piece_append j k a b p q = record {
  straight = straight_append a b p.straight q.straight;
  few
      = omega (arith, length-append a b, p.few, q.few);
}

pub piece_more : (j k : ℕ) (a : List Instr) → j ≤ k → Piece j a → Piece k a
piece_more j k a le p = record { straight = p.straight; few = omega (arith, le, p.few) }

pub piece_if : (k : ℕ) (b : Bool) (x y : List Instr) → Piece k x → Piece k y
    → Piece k (if b then x else y)
piece_if k true x y p q = p
piece_if k false x y p q = q

-- ---- numbers and spots

pub number_piece : (r n : ℕ) → Piece 2 (load_constant r n)
number_piece r n =
    piece_if 2 (is_short n) _ _ (piece_more 1 2 _ (omega arith) (piece_one _ tt))
    (piece_cons 1 _ _ tt (piece_if 1 _ _ _ (piece_nil 1) (piece_one _ tt)))

pub add_piece : (r q n : ℕ) → Piece 3 (add_to r q n)
add_piece r q n =
    piece_if 3 (is_short n) _ _ (piece_more 1 3 _ (omega arith) (piece_one _ tt))
    (piece_append 2 1 (load_constant 5 n) _ (number_piece 5 n) (piece_one _ tt))

pub copy_piece : (r q : ℕ) → Piece 1 (copy r q)
copy_piece r q = piece_if 1 (nat_eq r q) _ _ (piece_nil 1) (piece_one _ tt)

reach_piece : (k : ℕ) → Piece 2 (reach k)
reach_piece k = piece_if 2 _ _ _ (piece_nil 2) (piece_cons 1 _ _ tt (piece_one _ tt))

pub load_piece : (r k : ℕ) → Piece 3 (load_slot r k)
load_piece r k = piece_append 2 1 (reach k) _ (reach_piece k) (piece_one _ tt)

pub store_piece : (k r : ℕ) → Piece 3 (store_slot k r)
store_piece k r = piece_append 2 1 (reach k) _ (reach_piece k) (piece_one _ tt)

pub move_piece : (to from : Spot) → Piece (3 * (spot_cost to + spot_cost from)) (move_to to from)
move_piece (Reg r) (Reg q) = piece_more 1 6 _ (omega arith) (copy_piece r q)
move_piece (Reg r) (Slot k) = piece_more 3 6 _ (omega arith) (load_piece r k)
move_piece (Reg r) Scratch = piece_more 1 3 _ (omega arith) (copy_piece r 5)
move_piece (Slot k) (Reg q) = piece_more 3 6 _ (omega arith) (store_piece k q)
move_piece (Slot k) (Slot j) = piece_if 6 (nat_eq k j) _ _ (piece_nil 6)
    (piece_append 3 3 (load_slot 6 j) _ (load_piece 6 j) (store_piece k 6))
move_piece (Slot k) Scratch = store_piece k 5
move_piece Scratch (Reg q) = piece_more 1 3 _ (omega arith) (copy_piece 5 q)
move_piece Scratch (Slot k) = load_piece 5 k
move_piece Scratch Scratch = piece_nil 0

pub moves_piece : (ms : List Move) → Piece (3 * ends ms) (moves_code ms)
moves_piece [] = piece_nil 0
moves_piece (m ∷ ms) =
    piece_more (3 * (spot_cost m.to + spot_cost m.from) + 3 * ends ms) (3 * ends (m ∷ ms)) _
    (omega arith)
    (piece_append (3 * (spot_cost m.to + spot_cost m.from)) (3 * ends ms) (move_to m.to m.from)
    (moves_code ms) (move_piece m.to m.from) (moves_piece ms))

pub keep_piece : (r : ℕ) (s : Spot) → Piece 3 (keep r s)
keep_piece r (Reg q) = piece_nil 3
keep_piece r (Slot k) = store_piece k r
keep_piece r Scratch = piece_nil 3

pub held_number_piece : (r n : ℕ) → Piece 2 (hold r (Number n))
held_number_piece r n = piece_if 2 (nat_eq n 0) _ _ (piece_nil 2) (number_piece r n)

pub hold_piece : (r : ℕ) (s : Source) → Piece 3 (hold r s)
hold_piece r (At (Reg q)) = piece_nil 3
hold_piece r (At (Slot k)) = load_piece r k
hold_piece r (At Scratch) = piece_nil 3
hold_piece r (Number n) = piece_more 2 3 _ (omega arith) (held_number_piece r n)

pub number_into_piece : (s : Spot) (n : ℕ) → Piece 5 (number_into s n)
number_into_piece (Reg q) n = piece_more 2 5 _ (omega arith) (number_piece q n)
number_into_piece (Slot k) n = piece_append 2 3 (hold 5 (Number n)) _ (held_number_piece 5 n)
    (store_piece k (held 5 (Number n)))
number_into_piece Scratch n = piece_more 2 5 _ (omega arith) (number_piece 5 n)

-- the words that go to spots at once: six instructions each
pub sent_piece : (to : List Spot) (from : List Source) → (k : ℕ)
    × (Piece k (number_moves to from) × (6 * length (spot_moves to from) + k ≤ 6 * length from))
sent_piece [] from = (0, (piece_nil 0, omega arith))
sent_piece (t ∷ to) [] = (0, (piece_nil 0, omega arith))
sent_piece (t ∷ to) (At s ∷ from) = let more = sent_piece to from
    in (more.0, (more.1.0, omega (arith, more.1.1)))
sent_piece (t ∷ to) (Number n ∷ from) =
    let more = sent_piece to from in (
      5 + more.0,
      (
        piece_append 5 more.0 (number_into t n) (number_moves to from) (number_into_piece t n)
            more.1.0,
        omega (arith, more.1.1),
      ),
    )

-- ---- statements

pub set_piece : (to : Spot) (s : Source) → Piece 6 (set_code to s)
set_piece (Reg r) (At (Reg q)) = move_piece (Reg r) (Reg q)
set_piece (Reg r) (At (Slot k)) = move_piece (Reg r) (Slot k)
set_piece (Reg r) (At Scratch) = piece_more 3 6 _ (omega arith) (move_piece (Reg r) Scratch)
set_piece (Slot k) (At (Reg q)) = move_piece (Slot k) (Reg q)
set_piece (Slot k) (At (Slot j)) = move_piece (Slot k) (Slot j)
set_piece (Slot k) (At Scratch) = piece_more 3 6 _ (omega arith) (move_piece (Slot k) Scratch)
set_piece Scratch (At (Reg q)) = piece_more 3 6 _ (omega arith) (move_piece Scratch (Reg q))
set_piece Scratch (At (Slot k)) = piece_more 3 6 _ (omega arith) (move_piece Scratch (Slot k))
set_piece Scratch (At Scratch) = piece_nil 6
set_piece to (Number n) = piece_more 5 6 _ (omega arith) (number_into_piece to n)

operation_piece : (f : PrimOp) (t q r : ℕ) → Piece 2 (operation f t q r)
operation_piece Add t q r = piece_more 1 2 _ (omega arith) (piece_one _ tt)
operation_piece Sub t q r = piece_more 1 2 _ (omega arith) (piece_one _ tt)
operation_piece Mul t q r = piece_more 1 2 _ (omega arith) (piece_one _ tt)
operation_piece Quot t q r = piece_more 1 2 _ (omega arith) (piece_one _ tt)
operation_piece Rem t q r = piece_more 1 2 _ (omega arith) (piece_one _ tt)
operation_piece Eq t q r = piece_cons 1 _ _ tt (piece_one _ tt)
operation_piece Lt t q r = piece_more 1 2 _ (omega arith) (piece_one _ tt)

immediate_piece : (f : PrimOp) (t q n : ℕ) → Piece 2 (immediate f t q n)
immediate_piece Add t q n = piece_more 1 2 _ (omega arith) (piece_one _ tt)
immediate_piece Sub t q n = piece_more 1 2 _ (omega arith) (piece_one _ tt)
immediate_piece Mul t q n = piece_nil 2
immediate_piece Quot t q n = piece_nil 2
immediate_piece Rem t q n = piece_nil 2
immediate_piece Eq t q n = piece_if 2 (nat_eq n 0) _ _
    (piece_more 1 2 _ (omega arith) (piece_one _ tt)) (piece_cons 1 _ _ tt (piece_one _ tt))
immediate_piece Lt t q n = piece_more 1 2 _ (omega arith) (piece_one _ tt)

operands_piece : (f : PrimOp) (t : ℕ) (u v : Source) → Piece 8 (operands_held f t u v)
operands_piece f t u v =
    piece_append 3 5 (hold 5 u) _ (hold_piece 5 u)
    (piece_append 3 2 (hold 6 v) _ (hold_piece 6 v) (operation_piece f t (held 5 u) (held 6 v)))

operate_piece : (f : PrimOp) (t : ℕ) (u v : Source) → Piece 8 (operate_on f t u v)
operate_piece f t u (At s) = operands_piece f t u (At s)
operate_piece f t u (Number n) =
    piece_if 8 (is_immediate f n) _ _
    (piece_more 5 8 _ (omega arith)
    (piece_append 3 2 (hold 5 u) _ (hold_piece 5 u) (immediate_piece f t (held 5 u) n)))
    (operands_piece f t u (Number n))

in_order_piece : (f : PrimOp) (t : ℕ) (u v : Source) → Piece 8 (operate_in_order f t u v)
in_order_piece f t (At s) v = operate_piece f t (At s) v
in_order_piece f t (Number n) v = piece_if 8 (is_free f) _ _ (operate_piece f t v (Number n))
    (operate_piece f t (Number n) v)

pub prim_piece : (f : PrimOp) (to : Spot) (u v : Source) → Piece 11 (prim_code f to u v)
prim_piece f to u v = piece_append 8 3 (operate_in_order f (target 5 to) u v) _
    (in_order_piece f (target 5 to) u v) (keep_piece 5 to)

pub load_word_piece : (to : Spot) (cell : Source) (k : ℕ) → Piece 7 (load_code to cell k)
load_word_piece to cell k = piece_append 3 4 (hold 5 (high_part k cell)) _
    (hold_piece 5 (high_part k cell)) (piece_cons 3 _ _ tt (keep_piece 5 to))

pub save_word_piece : (cell : Source) (k : ℕ) (word : Source) → Piece 7 (save_code cell k word)
save_word_piece cell k word =
    piece_append 3 4 (hold 5 (high_part k cell)) _ (hold_piece 5 (high_part k cell))
    (piece_append 3 1 (hold 6 word) _ (hold_piece 6 word) (piece_one _ tt))

go_on_piece : (step off : ℕ) → Piece 2 (go_on step off)
go_on_piece step off = piece_if 2 (is_offset (off + step)) _ _ (piece_nil 2)
    (piece_cons 1 _ _ tt (piece_one _ tt))

pub cells_piece : (step off : ℕ) (ss : List Spot) → Piece (6 * length ss) (cells_code step off ss)
cells_piece step off [] = piece_nil 0
cells_piece step off (s ∷ ss) =
    let rest = cells_piece step (next_offset step off) ss in
    piece_more (suc (3 + (2 + 6 * length ss))) (6 * length (s ∷ ss)) _ (omega arith)
    (piece_cons (3 + (2 + 6 * length ss)) _ _ tt
    (piece_append 3 (2 + 6 * length ss) (keep 6 s) _ (keep_piece 6 s)
    (piece_append 2 (6 * length ss) (go_on step off) _ (go_on_piece step off) rest)))

pub below_piece : (step : ℕ) (ss : List Spot) → Piece (4 * length ss) (cells_below step ss)
below_piece step [] = piece_nil 0
below_piece step (s ∷ ss) =
    piece_more (suc (3 + 4 * length ss)) (4 * length (s ∷ ss)) _ (omega arith)
    (piece_cons (3 + 4 * length ss) _ _ tt
    (piece_append 3 (4 * length ss) (keep 6 s) _ (keep_piece 6 s) (below_piece step ss)))

aside_piece : Piece 4 aside
aside_piece = record { straight = (tt, (tt, (tt, (tt, tt)))); few = omega arith }

back_piece : (heap_end : ℕ) → Piece 6 (back heap_end)
back_piece heap_end = piece_cons 5 _ _ tt
    (piece_cons 4 _ _ tt (piece_cons 3 _ _ tt (piece_cons 2 _ _ tt (number_piece 4 heap_end))))

call_piece : (file call : ℕ) → Piece 5 (call_code file call)
call_piece file call = record { straight = (tt, (tt, (tt, (tt, (tt, tt))))); few = omega arith }

pub put_piece : (heap_end : ℕ) (word : Source) → Piece 21 (put_code heap_end word)
put_piece heap_end word =
    piece_cons 20 _ _ tt
    (piece_append 3 17 (hold 5 word) _ (hold_piece 5 word)
    (piece_cons 16 _ _ tt
    (piece_append 4 12 aside _ aside_piece
    (piece_append 5 7 (call_code 1 64) _ (call_piece 1 64)
    (piece_append 6 1 (back heap_end) _ (back_piece heap_end) (piece_one _ tt))))))

given_piece : Piece 4 byte_given
given_piece = record { straight = (tt, (tt, (tt, (tt, tt)))); few = omega arith }

into_piece : (to : Spot) → Piece 6 (move_to to (Reg 1))
into_piece (Reg r) = move_piece (Reg r) (Reg 1)
into_piece (Slot k) = move_piece (Slot k) (Reg 1)
into_piece Scratch = piece_more 3 6 _ (omega arith) (move_piece Scratch (Reg 1))

pub get_piece : (heap_end : ℕ) (to : Spot) → Piece 27 (get_code heap_end to)
get_piece heap_end to =
    piece_cons 26 _ _ tt (piece_cons 25 _ _ tt
    (piece_append 4 21 aside _ aside_piece
    (piece_append 5 16 (call_code 0 63) _ (call_piece 0 63)
    (piece_append 4 12 byte_given _ given_piece
    (piece_append 6 6 (back heap_end) _ (back_piece heap_end) (into_piece to))))))

-- ---- procedures

pub parameters_piece : (i : ℕ) (ss : List Spot) → Piece (3 * length ss) (parameters_code i ss)
parameters_piece i [] = piece_nil 0
parameters_piece i (s ∷ ss) =
    piece_more (3 + 3 * length ss) (3 * length (s ∷ ss)) _ (omega arith)
    (piece_append 3 (3 * length ss) (keep (8 + i) s) _ (keep_piece (8 + i) s)
    (parameters_piece (suc i) ss))

pub leave_piece : (framed : Bool) (words : ℕ) → Piece 4 (leave_code framed words)
leave_piece true words = piece_cons 3 _ _ tt (add_piece 2 2 (4 * words))
leave_piece false words = piece_more 3 4 _ (omega arith) (add_piece 2 2 (4 * words))

pub base_piece : (lasting : Bool) (base : ℕ) → Piece 2 (base_at_entry lasting base)
base_piece true base = piece_nil 2
base_piece false base = number_piece 5 base

pub start_base_piece : (lasting : Bool) (base : ℕ) → Piece 2 (base_at_start lasting base)
start_base_piece true base = number_piece 27 base
start_base_piece false base = piece_nil 2

pub link_piece : (framed : Bool) → Piece 1 (link_put framed)
link_piece true = piece_one _ tt
link_piece false = piece_nil 1

pub save_piece : (first : ℕ) (rs : List ℕ) → Piece (3 * length rs)
    (moves_code (save_moves first rs))
save_piece first [] = piece_nil 0
save_piece first (r ∷ rs) =
    piece_more (3 + 3 * length rs) (3 * length (r ∷ rs)) _ (omega arith)
    (piece_append 3 (3 * length rs) (store_slot first r) _ (store_piece first r)
    (save_piece (suc first) rs))

pub restore_piece : (first : ℕ) (rs : List ℕ) → Piece (3 * length rs)
    (moves_code (restore_moves first rs))
restore_piece first [] = piece_nil 0
restore_piece first (r ∷ rs) =
    piece_more (3 + 3 * length rs) (3 * length (r ∷ rs)) _ (omega arith)
    (piece_append 3 (3 * length rs) (load_slot r first) _ (load_piece r first)
    (restore_piece (suc first) rs))

pub globals_piece : (step : ℕ) (ts : List ℕ) → Piece (4 * length ts) (globals_code step ts)
globals_piece step [] = piece_nil 0
globals_piece step (t ∷ ts) =
    piece_more (2 + suc (suc (4 * length ts))) (4 * length (t ∷ ts)) _ (omega arith)
    (piece_append 2 (suc (suc (4 * length ts))) (hold 6 (Number t)) _ (held_number_piece 6 t)
    (piece_cons (suc (4 * length ts)) _ _ tt
    (piece_cons (4 * length ts) _ _ tt (globals_piece step ts))))
