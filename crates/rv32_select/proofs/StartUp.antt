-- The start-up: registers and globals, the call of the start, and the exit behind it.
use Rattle.std.proofs.Common.{◌≡◌, ◌≢◌, ℕ, zero, suc, ◌+◌, ◌-◌, ◌*◌, ◌/◌, ◌%◌, ◌^◌, ◌<◌, ◌≤◌, List, [], ◌∷◌, ◌++◌, map, length, set, replicate, Bool, true, false, Some, refl, sym, ap, ◌∙◌, subst, arith, append_assoc, length-append}
use Rattle.std.specs.Prelude.{pos, nat_eq, if◌then◌else◌, slice_get, slice_set}
use Rattle.std.proofs.lemmas.Bool.Decides.{nat_tests}
use Rattle.std.proofs.lemmas.Grind.{common_steps}
use Rattle.std.proofs.Math.ListN.{length-set}
use Rattle.std.proofs.Math.Nat.{mul-le-mul_left}
use Rattle.seq.proofs.Lists.{get_last}
use Rattle.rv32_isa.specs.declared.instr.ImmKind.TheVariants.{Addi}
use Rattle.rv32_machine.specs.Arithmetic.{plus}
use Rattle.rv32_machine.specs.Steps.{set_reg}
use Rattle.rv32_steps.specs.Data.{words_bytes}
use Rattle.rv32_steps.specs.Straight.{register_value}
use Rattle.rv32_steps.proofs.Words.{zero_words}
use Rattle.low_code.specs.Tree.{Program}
use Rattle.low_code.specs.Values.{Word, number}
use Rattle.rv32_items.specs.declared.Item.{Item}
use Rattle.rv32_items.specs.Course.{Layout}
use Rattle.rv32_select.specs.declared.source.Source.TheVariants.{Number}
use Rattle.rv32_select.specs.Emit.{held, hold, load_constant, globals_code}
use Rattle.limits.specs.Limits.{heap_start, stack_end}
use Rattle.rv32_select.specs.Selects.{start_point}
use Rattle.low_code.specs.Literals.{TagsSmall}
use Rattle.rv32_select.proofs.Straight.{Data, with_reg, with_heap, Good, Does, does_nothing, does_on, does_to, does_imm, does_store_heap, at}
use Rattle.rv32_select.proofs.NumberParts.{value_is, nothing_set, does_number}
use Rattle.rv32_select.proofs.Relation.{bases, HoldsCells}
use Rattle.rv32_select.proofs.CellWords.{cell_inside, cells_taken, cells_stored}
use Rattle.rv32_machine.proofs.Registers.{set_here}
use Rattle.rv32_steps.proofs.Access.{bytes_segment}

-- ---- a number in a register, whatever the frame

module _ (lay : Layout) (stack : ℕ) where
  record HeldNumber (r n : ℕ) (d : Data) : Type 0 where
    pub own : ℕ
    pub does : Does lay.code (bases stack) (hold r (Number n)) d (with_reg d r own)
    pub value_of : register_value (set_reg d.regs r own) (held r (Number n)) ≡ n
    pub not_seven : held r (Number n) ≢ 7

  held_number : (r n : ℕ) (d : Data) → Good lay.code (bases stack) d → 1 ≤ r → r ≢ 7 → n < 2 ^ 32
      → HeldNumber r n d
  held_number r n d g one ne small = by_zero (nat_eq n 0) refl
    where
      made : (t : Bool) → nat_eq n 0 ≡ t → (own : ℕ)
          → Does lay.code (bases stack) (if t then [] else load_constant r n) d (with_reg d r own)
          → register_value (set_reg d.regs r own) (if t then 0 else r) ≡ n
          → (if t then 0 else r) ≢ 7 → HeldNumber r n d
      made t e own does is apart = record {
        own = own;
        does = subst
            (λ x. Does lay.code (bases stack) (if x then [] else load_constant r n) d
            (with_reg d r own)) (sym e) does;
        value_of = ap (λ x. register_value (set_reg d.regs r own) (if x then 0 else r)) e ∙ is;
        not_seven = λ h. apart (sym (ap (λ x. if x then 0 else r) e) ∙ h);
      }

      by_zero : (t : Bool) → nat_eq n 0 ≡ t → HeldNumber r n d
      by_zero true e = made true e (d.regs r)
          (does_to lay.code (bases stack) (does_nothing lay.code (bases stack) d g)
          (sym (nothing_set d r))) (let z : n ≡ 0 = grind (arith, nat_tests) in sym z)
          (λ h. absurd (omega arith))
      by_zero false e = made false e n (does_number lay.code (bases stack) r n d g one small)
          (value_is (set_reg d.regs r n) r one ∙ set_here d.regs r n) ne

-- ---- the globals

-- a cell's place behind others
set_behind : {A : Type 0} (xs : List A) (x y : A) → slice_set (xs ++ x ∷ []) (length xs) y ≡ xs
    ++ y ∷ []
set_behind [] x y = refl
set_behind (z ∷ xs) x y = ap (λ l. z ∷ l) (set_behind xs x y)

module _ (l : Program) (lay : Layout) (cells stack : ℕ) (wide : 1 ≤ l.width) (narrow : l.width ≤ 14)
  where
    abbrev tag_cell : ℕ → List Word
    tag_cell t = slice_set (replicate l.width (number 0)) 0 (number t)

    -- the globals have their cells
    pub record Globals (ts : List ℕ) (cs : List (List Word)) (d : Data) : Type 0 where
      pub to : Data
      pub does : Does lay.code (bases stack) (globals_code (4 * l.width) ts) d to
      pub cells_are : HoldsCells l.width to.heap (cs ++ map tag_cell ts)
      pub next : to.regs 3 ≡ heap_start + 4 * l.width * (length cs + length ts)
      pub words : length to.heap ≡ length d.heap
      pub stack' : to.stack ≡ d.stack
      pub two : to.regs 2 ≡ d.regs 2
      pub four : to.regs 4 ≡ d.regs 4

    pub globals_done : (ts : List ℕ) (cs : List (List Word)) (d : Data)
        → Good lay.code (bases stack) d → TagsSmall ts → HoldsCells l.width d.heap cs
        → d.regs 3 ≡ heap_start + 4 * l.width * length cs → length d.heap ≡ l.width * cells
        → length cs + length ts ≤ cells → Globals ts cs d
    globals_done [] cs d g small h next words room =
        let end : cs ≡ cs ++ [] = end_of cs in
        let none : length cs ≡ length cs + 0 = omega arith in
        record {
          to = d;
          does = does_nothing lay.code (bases stack) d g;
          cells_are = subst (λ x. HoldsCells l.width d.heap x) end h;
          next = next ∙ ap (λ x. heap_start + 4 * l.width * x) none;
          words = refl;
          stack' = refl;
          two = refl;
          four = refl;
        }
      where
        end_of : (xs : List (List Word)) → xs ≡ xs ++ []
        end_of xs = grind (arith, common_steps)
    globals_done (t ∷ ts) cs d g small h next words room =
        let H = held_number lay stack 6 t d g (omega arith) (omega arith) small.0 in
        let e1 = with_reg d 6 H.own in
        let empty = replicate l.width (number 0) in
        let below = g.laid.heap_below in
        let top = g.top in
        let i_lt : length cs < cells = omega arith in
        let inside : l.width * length cs + 0 < length d.heap = let x
        = cell_inside l.width (length cs) 0 cells i_lt wide in omega arith in
        let same : 4 * l.width * length cs ≡ 4 * (l.width * length cs + 0) = omega arith in
        let place : plus (register_value e1.regs 3) 0 ≡ (bases stack).heap + 4 *
        (l.width * length cs + 0) = omega arith in
        let S = does_store_heap lay.code (bases stack) (held 6 (Number t)) 3 (pos 0)
        (l.width * length cs + 0) t e1 H.does.good H.not_seven place inside H.value_of in
        let e2 = with_heap e1 (set d.heap (l.width * length cs + 0) t) in
        let step : 4 * l.width * suc (length cs) ≡ 4 * l.width * length cs + 4 * l.width
        = omega arith
        in
        let sum : plus (d.regs 3) (4 * l.width) ≡ heap_start + 4 * l.width * suc (length cs)
        = end_small d g words next i_lt in
        let I = does_imm lay.code (bases stack) Addi 3 3 (pos (4 * l.width))
        (heap_start + 4 * l.width * suc (length cs)) e2 S.good sum (next_small d g words i_lt) in
        let e3 = with_reg e2 3 (heap_start + 4 * l.width * suc (length cs)) in
        let longer : length (cs ++ tag_cell t ∷ []) ≡ suc (length cs)
        = length-append cs (tag_cell t ∷ []) ∙ omega arith in
        let first_word : slice_get empty 0 ≡ Some (number 0) = first l.width wide in
        let taken : HoldsCells l.width d.heap (cs ++ empty ∷ []) = cells_taken l.width d.heap cs 1 h
        in
        let stored = cells_stored l.width d.heap (cs ++ empty ∷ []) (length cs) 0 empty (number 0)
        (number t) taken (get_last cs empty) first_word inside in
        let cells1 : HoldsCells l.width e3.heap (cs ++ tag_cell t ∷ [])
        = subst (λ x. HoldsCells l.width (set d.heap (l.width * length cs + 0) t) x)
        (set_behind cs empty (tag_cell t)) stored in
        let heap_len = length-set d.heap (l.width * length cs + 0) t in
        let more = globals_done ts (cs ++ tag_cell t ∷ []) e3 I.good small.1 cells1
        (ap (λ x. heap_start + 4 * l.width * x) (sym longer)) (heap_len ∙ words) (omega arith) in
        record {
          to = more.to;
          does = does_on lay.code (bases stack) H.does
              (does_on lay.code (bases stack) S (does_on lay.code (bases stack) I more.does));
          cells_are = subst (λ x. HoldsCells l.width more.to.heap x)
              (append_assoc cs (tag_cell t ∷ []) (map tag_cell ts)) more.cells_are;
          next = more.next ∙ ap (λ x. heap_start + 4 * l.width * x)
              (let y : length (cs ++ tag_cell t ∷ []) + length ts ≡ length cs + suc (length ts)
              = omega arith in y);
          words = more.words ∙ heap_len;
          stack' = more.stack';
          two = more.two;
          four = more.four;
        }
      where
        first : (width : ℕ) → 1 ≤ width → slice_get (replicate width (number 0)) 0 ≡ Some (number 0)
        first zero one = absurd (omega arith)
        first (suc width) one = refl

        next_small : (d : Data) → Good lay.code (bases stack) d → length d.heap ≡ l.width * cells
            → length cs < cells → heap_start + 4 * l.width * suc (length cs) < 2 ^ 32
        next_small d g words lt =
            let below = g.laid.heap_below in
            let most : 4 * l.width * suc (length cs) ≤ 4 * l.width * cells
            = mul-le-mul_left (4 * l.width) (let x : suc (length cs) ≤ cells = omega arith in x)
            in
            let same : 4 * l.width * cells ≡ 4 * (l.width * cells) = omega arith in
            omega arith

        end_small : (d : Data) → Good lay.code (bases stack) d → length d.heap ≡ l.width * cells
            → d.regs 3 ≡ heap_start + 4 * l.width * length cs → length cs < cells
            → plus (d.regs 3) (4 * l.width) ≡ heap_start + 4 * l.width * suc (length cs)
        end_small d g words next lt =
            let small = next_small d g words lt in
            let step : 4 * l.width * suc (length cs) ≡ 4 * l.width * length cs + 4 * l.width
            = omega arith in
            omega arith

-- ---- the data at the start

abbrev pub start_data : (width cells stack : ℕ) → Data
start_data width cells stack = record
    { regs = λ r. 0; heap = replicate (width * cells) 0; stack = replicate (stack / 4) 0 }

pub starts_at : (width cells stack : ℕ) (lay : Layout) (items : List Item) → stack % 4 ≡ 0
    → at (bases stack) lay items 0 (start_data width cells stack) ≡ start_point width cells stack
    lay
starts_at width cells stack lay items four =
    let heap_size : 4 * (width * cells) ≡ 4 * width * cells = omega arith in
    let stack_size : 4 * (stack / 4) ≡ stack = omega arith in
    let heap : words_bytes (replicate (width * cells) 0) ≡ replicate (4 * width * cells) 0
    = zero_words (width * cells) ∙ ap (λ n. replicate {A = ℕ} n 0) heap_size in
    let stack_is : words_bytes (replicate (stack / 4) 0) ≡ replicate stack 0
    = zero_words (stack / 4) ∙ ap (λ n. replicate {A = ℕ} n 0) stack_size in
    λ i. record {
      regs = λ r. 0;
      item = 0;
      memory = lay.code ∷ bytes_segment heap_start (heap i) ∷ bytes_segment (stack_end - stack)
          (stack_is i) ∷ [];
    }
