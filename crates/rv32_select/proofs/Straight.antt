-- Plain instructions that change registers, words of the heap and words of the stack, and the
-- stretch of a course that they are.
use Rattle.std.proofs.Common.{◌≡◌, ◌≢◌, ℕ, ℤ, zero, suc, ◌+◌, ◌*◌, ◌^◌, ◌<◌, ◌≤◌, List, [], ◌∷◌, ◌++◌, map, length, get_or, set, Bool, true, false, Some, inl, inr, refl, sym, ap, ◌∙◌, subst, arith}
use Rattle.std.specs.Prelude.{nat_eq, nat_lt, if◌then◌else◌, slice_get}
use Rattle.std.proofs.Math.ListN.{length-set}
use Rattle.std.proofs.lemmas.Bool.Decides.{nat_tests}
use Rattle.rv32_isa.specs.declared.instr.Instr.{Instr}
use Rattle.rv32_isa.specs.declared.instr.Instr.TheVariants.{Lui, Auipc, Jal, Jalr, Branch, Load, Store, OpImm, Shift, Op, Fence, Ecall, Ebreak}
use Rattle.rv32_isa.specs.declared.instr.LoadKind.TheVariants.{Lw}
use Rattle.rv32_isa.specs.declared.instr.StoreKind.TheVariants.{Sw}
use Rattle.rv32_isa.specs.declared.instr.OpKind.{OpKind}
use Rattle.rv32_isa.specs.declared.instr.ImmKind.{ImmKind}
use Rattle.rv32_machine.specs.Memory.{Stretch}
use Rattle.rv32_machine.specs.Arithmetic.{plus, pattern, op_value, imm_value}
use Rattle.rv32_machine.specs.Steps.{set_reg, act}
use Rattle.rv32_steps.specs.Trace.{is_return}
use Rattle.rv32_steps.specs.Data.{AreWords, Bases, Words, memory_of, MemoryIsLaidOut, word_index, IsWordIndex, word_at, with_word}
use Rattle.rv32_steps.specs.Straight.{register_value, InstructionIsAllowed, InstructionsAreAllowed, regs_after, words_after, straight_regs, straight_words}
use Rattle.rv32_steps.proofs.Straight.{in_heap, still_apart, acts_on}
use Rattle.rv32_items.specs.declared.Item.{Item}
use Rattle.rv32_items.specs.declared.Item.TheVariants.{Plain}
use Rattle.rv32_items.specs.Course.{Layout, Point, Next, turn, turn_of, behind_plain, to_item, address_from, label_of, state_at}
use Rattle.rv32_items.specs.Told.{is_call, returns}
use Rattle.rv32_select.proofs.Courses.{Stands, Goes, stays, goes, one_on}
use Rattle.rv32_select.specs.Emit.{plain}

-- the registers, the words of the heap and those of the stack
pub record Data : Type 0 where
  pub regs : ℕ → ℕ
  pub heap : List ℕ
  pub stack : List ℕ

abbrev pub words : Data → Words
words d = record { heap = d.heap; stack = d.stack }

abbrev pub with_reg : Data → ℕ → ℕ → Data
with_reg d r v = record { regs = set_reg d.regs r v; heap = d.heap; stack = d.stack }

abbrev pub with_heap : Data → List ℕ → Data
with_heap d ws = record { regs = d.regs; heap = ws; stack = d.stack }

abbrev pub with_stack : Data → List ℕ → Data
with_stack d ws = record { regs = d.regs; heap = d.heap; stack = ws }

pub plain_length : (is : List Instr) → length (map Plain is) ≡ length is
plain_length [] = refl
plain_length (i ∷ is) = ap suc (plain_length is)

module _ (c : Stretch) (b : Bases) where
  -- registers read as numbers of 32 bits, but for x7, which a jump may change, and the segments are
  -- apart
  pub record Good (d : Data) : Type 0 where
    pub small : (r : ℕ) → r ≢ 7 → register_value d.regs r < 2 ^ 32
    pub laid : MemoryIsLaidOut c b (words d)
    pub top : b.stack + 4 * length d.stack < 2 ^ 32

  pub small_word : (ws : List ℕ) (k : ℕ) → AreWords ws → get_or ws k 0 < 2 ^ 32
  small_word [] k h = omega arith
  small_word (w ∷ ws) zero h = h.0
  small_word (w ∷ ws) (suc k) h = small_word ws k h.1

  pub good_reg : (d : Data) (r v : ℕ) → Good d → v < 2 ^ 32 → Good (with_reg d r v)
  good_reg d r v g lt = record {
    small = λ q ne. go (nat_eq q 0) (nat_eq q r) q refl (g.small q ne);
    laid = g.laid;
    top
        = g.top;
  }
    where
      go : (z t : Bool) (q : ℕ) → nat_eq q 0 ≡ z → register_value d.regs q < 2 ^ 32
          → (if z then 0 else (if t then v else d.regs q)) < 2 ^ 32
      go true t q e old = omega arith
      go false true q e old = lt
      go false false q e old = subst (λ b. (if b then 0 else d.regs q) < 2 ^ 32) e old

  -- instructions lead from some data to others, as they stand
  pub record Does (is : List Instr) (d d' : Data) : Type 0 where
    pub asks : InstructionsAreAllowed b is d.regs (words d)
    pub regs_are : straight_regs b is d.regs (words d) ≡ d'.regs
    pub words_are : straight_words b is d.regs (words d) ≡ words d'
    pub good : Good d'

  pub does_nothing : (d : Data) → Good d → Does [] d d
  does_nothing d g = record { asks = tt; regs_are = refl; words_are = refl; good = g }

  all_append : (is js : List Instr) (regs : ℕ → ℕ) (w : Words) → InstructionsAreAllowed b is regs w
      → InstructionsAreAllowed b js (straight_regs b is regs w) (straight_words b is regs w)
      → InstructionsAreAllowed b (is ++ js) regs w
  all_append [] js regs w h k = k
  all_append (i ∷ is) js regs w h k =
      (h.0, all_append is js (regs_after b i regs w) (words_after b i regs w) h.1 k)

  regs_append : (is js : List Instr) (regs : ℕ → ℕ) (w : Words)
      → straight_regs b (is ++ js) regs w ≡ straight_regs b js (straight_regs b is regs w)
      (straight_words b is regs w)
  regs_append [] js regs w = refl
  regs_append (i ∷ is) js regs w = regs_append is js (regs_after b i regs w)
      (words_after b i regs w)

  words_append : (is js : List Instr) (regs : ℕ → ℕ) (w : Words)
      → straight_words b (is ++ js) regs w ≡ straight_words b js (straight_regs b is regs w)
      (straight_words b is regs w)
  words_append [] js regs w = refl
  words_append (i ∷ is) js regs w = words_append is js (regs_after b i regs w)
      (words_after b i regs w)

  pub does_on : {is js : List Instr} {d e f : Data} → Does is d e → Does js e f
      → Does (is ++ js) d f
  does_on {is} {js} {d} {e} {f} h k = record {
    asks = all_append is js d.regs (words d) h.asks
        (subst (λ r. InstructionsAreAllowed b js r (straight_words b is d.regs (words d)))
        (sym h.regs_are)
        (subst (λ w. InstructionsAreAllowed b js e.regs w) (sym h.words_are) k.asks));
    regs_are = regs_append is js d.regs (words d)
        ∙ ap (λ r. straight_regs b js r (straight_words b is d.regs (words d))) h.regs_are
        ∙ ap (λ w. straight_regs b js e.regs w) h.words_are
        ∙ k.regs_are;
    words_are = words_append is js d.regs (words d)
        ∙ ap (λ r. straight_words b js r (straight_words b is d.regs (words d))) h.regs_are
        ∙ ap (λ w. straight_words b js e.regs w) h.words_are
        ∙ k.words_are;
    good = k.good;
  }

  -- the same data, under another name
  pub does_to : {is : List Instr} {d e f : Data} → Does is d e → e ≡ f → Does is d f
  does_to {is} {d} {e} {f} h same = subst (λ x. Does is d x) same h

  pub does_lui : (rd imm : ℕ) (d : Data) → Good d → imm * 4096 < 2 ^ 32
      → Does (Lui rd imm ∷ []) d (with_reg d rd (imm * 4096))
  does_lui rd imm d g lt = record
      { asks = (tt, tt); regs_are = refl; words_are = refl; good = good_reg d rd (imm * 4096) g lt }

  pub does_imm : (kind : ImmKind) (rd rs1 : ℕ) (imm : ℤ) (v : ℕ) (d : Data) → Good d
      → imm_value kind (register_value d.regs rs1) (pattern imm) ≡ v → v < 2 ^ 32
      → Does (OpImm kind rd rs1 imm ∷ []) d (with_reg d rd v)
  does_imm kind rd rs1 imm v d g e lt = record {
    asks = (tt, tt);
    regs_are = ap (λ x. set_reg d.regs rd x) e;
    words_are = refl;
    good = good_reg d rd v g lt;
  }

  pub does_op : (kind : OpKind) (rd rs1 rs2 v : ℕ) (d : Data) → Good d
      → op_value kind (register_value d.regs rs1) (register_value d.regs rs2) ≡ v → v < 2 ^ 32
      → Does (Op kind rd rs1 rs2 ∷ []) d (with_reg d rd v)
  does_op kind rd rs1 rs2 v d g e lt = record {
    asks = (tt, tt);
    regs_are = ap (λ x. set_reg d.regs rd x) e;
    words_are = refl;
    good = good_reg d rd v g lt;
  }

  -- ---- words of the stack and of the heap

  is_slot : (base : ℕ) (ws : List ℕ) (a k : ℕ) → a ≡ base + 4 * k → k < length ws
      → IsWordIndex base ws a × (word_index base a ≡ k)
  is_slot base ws a k e lt =
      let same : word_index base a ≡ k = omega arith in
      ((omega arith, omega arith), same)

  pub stack_read : (d : Data) (a t : ℕ) → a ≡ b.stack + 4 * t
      → word_at b (words d) a ≡ get_or d.stack t 0
  stack_read d a t e =
      let same : word_index b.stack a ≡ t = omega arith in
      let high : nat_lt a b.stack ≡ false = let h : b.stack ≤ a = omega arith
      in grind (arith, nat_tests) in
      ap (λ x. if x then get_or d.heap (word_index b.heap a) 0
      else get_or d.stack (word_index b.stack a) 0) high ∙ ap (λ k. get_or d.stack k 0) same

  heap_read : (d : Data) (a i : ℕ) → Good d → a ≡ b.heap + 4 * i → i < length d.heap
      → word_at b (words d) a ≡ get_or d.heap i 0
  heap_read d a i g e lt =
      let is = is_slot b.heap d.heap a i e lt in
      ap (λ x. if x then get_or d.heap (word_index b.heap a) 0
      else get_or d.stack (word_index b.stack a) 0) (in_heap c b (words d) a g.laid is.0) ∙ ap
      (λ k. get_or d.heap k 0) is.1

  pub does_load_stack : (rd rs1 : ℕ) (imm : ℤ) (t : ℕ) (d : Data) → Good d
      → plus (register_value d.regs rs1) (pattern imm) ≡ b.stack + 4 * t → t < length d.stack
      → Does (Load Lw rd rs1 imm ∷ []) d (with_reg d rd (get_or d.stack t 0))
  does_load_stack rd rs1 imm t d g e lt =
      let a = plus (register_value d.regs rs1) (pattern imm) in
      record {
        asks = (inr (is_slot b.stack d.stack a t e lt).0, tt);
        regs_are = ap (λ x. set_reg d.regs rd x) (stack_read d a t e);
        words_are = refl;
        good = good_reg d rd (get_or d.stack t 0) g (small_word d.stack t g.laid.stack_words);
      }

  pub does_load_heap : (rd rs1 : ℕ) (imm : ℤ) (i : ℕ) (d : Data) → Good d
      → plus (register_value d.regs rs1) (pattern imm) ≡ b.heap + 4 * i → i < length d.heap
      → Does (Load Lw rd rs1 imm ∷ []) d (with_reg d rd (get_or d.heap i 0))
  does_load_heap rd rs1 imm i d g e lt =
      let a = plus (register_value d.regs rs1) (pattern imm) in
      record {
        asks = (inl (is_slot b.heap d.heap a i e lt).0, tt);
        regs_are = ap (λ x. set_reg d.regs rd x) (heap_read d a i g e lt);
        words_are = refl;
        good = good_reg d rd (get_or d.heap i 0) g (small_word d.heap i g.laid.heap_words);
      }

  pub stack_written : (d : Data) (a t v : ℕ) → a ≡ b.stack + 4 * t
      → with_word b (words d) a v ≡ words (with_stack d (set d.stack t v))
  stack_written d a t v e =
      let same : word_index b.stack a ≡ t = omega arith in
      let high : nat_lt a b.stack ≡ false = let h : b.stack ≤ a = omega arith
      in grind (arith, nat_tests) in
      let in_the_heap : Words = record
      { heap = set d.heap (word_index b.heap a) v; stack = d.stack } in
      let in_the_stack : Words = record
      { heap = d.heap; stack = set d.stack (word_index b.stack a) v } in
      ap (λ x. if x then in_the_heap else in_the_stack) high ∙ ap
      (λ k. words (with_stack d (set d.stack k v))) same

  heap_written : (d : Data) (a i v : ℕ) → Good d → a ≡ b.heap + 4 * i → i < length d.heap
      → with_word b (words d) a v ≡ words (with_heap d (set d.heap i v))
  heap_written d a i v g e lt =
      let is = is_slot b.heap d.heap a i e lt in
      let in_the_heap : Words = record
      { heap = set d.heap (word_index b.heap a) v; stack = d.stack } in
      let in_the_stack : Words = record
      { heap = d.heap; stack = set d.stack (word_index b.stack a) v } in
      ap (λ x. if x then in_the_heap else in_the_stack) (in_heap c b (words d) a g.laid is.0) ∙ ap
      (λ k. words (with_heap d (set d.heap k v))) is.1

  pub good_stack : (d : Data) (t v : ℕ) → Good d → v < 2 ^ 32
      → Good (with_stack d (set d.stack t v))
  good_stack d t v g lt = record {
    small = g.small;
    laid = subst (λ w. MemoryIsLaidOut c b w) (stack_written d (b.stack + 4 * t) t v refl)
        (still_apart c b [] (words d) (b.stack + 4 * t) v g.laid lt);
    top = let same = length-set d.stack t v in let h = g.top in omega arith;
  }

  pub does_store_stack : (rs2 rs1 : ℕ) (imm : ℤ) (t v : ℕ) (d : Data) → Good d → rs2 ≢ 7
      → plus (register_value d.regs rs1) (pattern imm) ≡ b.stack + 4 * t → t < length d.stack
      → register_value d.regs rs2 ≡ v → Does (Store Sw rs2 rs1 imm ∷ []) d
      (with_stack d (set d.stack t v))
  does_store_stack rs2 rs1 imm t v d g ne e lt same =
      let a = plus (register_value d.regs rs1) (pattern imm) in
      let small = g.small rs2 ne in
      record {
        asks = ((inr (is_slot b.stack d.stack a t e lt).0, small), tt);
        regs_are = refl;
        words_are = ap (λ x. with_word b (words d) a x) same ∙ stack_written d a t v e;
        good = good_stack d t v g (omega arith);
      }

  pub does_store_heap : (rs2 rs1 : ℕ) (imm : ℤ) (i v : ℕ) (d : Data) → Good d → rs2 ≢ 7
      → plus (register_value d.regs rs1) (pattern imm) ≡ b.heap + 4 * i → i < length d.heap
      → register_value d.regs rs2 ≡ v → Does (Store Sw rs2 rs1 imm ∷ []) d
      (with_heap d (set d.heap i v))
  does_store_heap rs2 rs1 imm i v d g ne e lt same =
      let a = plus (register_value d.regs rs1) (pattern imm) in
      let small = g.small rs2 ne in
      let is : with_word b (words d) a (register_value d.regs rs2) ≡ words
      (with_heap d (set d.heap i v)) = ap (λ x. with_word b (words d) a x) same ∙ heap_written d
      a i v g e lt in
      record {
        asks = ((inl (is_slot b.heap d.heap a i e lt).0, small), tt);
        regs_are = refl;
        words_are = is;
        good = record {
          small = g.small;
          laid = subst (λ w. MemoryIsLaidOut c b w) is
              (still_apart c b [] (words d) a (register_value d.regs rs2) g.laid small);
          top = g.top;
        };
      }

-- an instruction of straight code is no return
no_return : (b : Bases) (i : Instr) (regs : ℕ → ℕ) (w : Words) → InstructionIsAllowed b i regs w
    → is_return i ≡ false
no_return b (Lui rd imm) regs w asks = refl
no_return b (OpImm kind rd rs1 imm) regs w asks = refl
no_return b (Shift kind rd rs1 amount) regs w asks = refl
no_return b (Op kind rd rs1 rs2) regs w asks = refl
no_return b (Load kind rd rs1 imm) regs w asks = refl
no_return b (Store kind rs2 rs1 imm) regs w asks = refl
no_return b (Auipc rd imm) regs w asks = refl
no_return b (Jal rd off) regs w asks = refl
no_return b (Jalr rd rs1 imm) regs w asks = absurd asks
no_return b (Branch kind rs1 rs2 off) regs w asks = refl
no_return b (Fence top rs1 rd) regs w asks = refl
no_return b Ecall regs w asks = refl
no_return b Ebreak regs w asks = refl

module _ (b : Bases) (lay : Layout) (items : List Item) where
  abbrev pub standing : ℕ → (ℕ → ℕ) → Words → Point
  standing n regs w = record { regs = regs; item = n; memory = memory_of lay.code b w [] }

  -- the point at an item with these data
  abbrev pub at : ℕ → Data → Point
  at n d = record { regs = d.regs; item = n; memory = memory_of lay.code b (words d) [] }

  each : (n : ℕ) (regs : ℕ → ℕ) (w : Words) (i : Instr) (input calls : List ℕ)
      → slice_get items n ≡ Some (Plain i) → MemoryIsLaidOut lay.code b w
      → InstructionIsAllowed b i regs w → Goes lay items 1 input (standing n regs w) calls [] []
      input (standing (suc n) (regs_after b i regs w) (words_after b i regs w)) calls
  unfolding turn
  each n regs w i input calls here ok asks =
      let p = standing n regs w in
      let q = standing (suc n) (regs_after b i regs w) (words_after b i regs w) in
      let returning = to_item lay items (address_from 0 items lay (regs 1))
      (set_reg regs 0 (lay.address (suc n))) p in
      let does : turn lay items p ≡ Next q =
      ap (turn_of lay items p) here
      ∙ ap (λ t. if t then returning else behind_plain lay items p (act (state_at lay items p) i))
      (no_return b i regs w asks)
      ∙ ap (behind_plain lay items p) (acts_on lay.code b [] i regs (lay.address n) w ok asks).0 in
      subst (λ l. Goes lay items 1 input p calls [] l input q calls) (ap label_of here)
      (one_on lay items p q input calls does (ap is_call here)
      (ap returns here ∙ no_return b i regs w asks))

  straight : (is : List Instr) (n m : ℕ) (regs : ℕ → ℕ) (w : Words) (input calls : List ℕ)
      → m ≡ n + length is → Stands items n (plain is) → MemoryIsLaidOut lay.code b w
      → InstructionsAreAllowed b is regs w → Goes lay items (length is) input (standing n regs w)
      calls [] [] input (standing m (straight_regs b is regs w) (straight_words b is regs w)) calls
  straight [] n m regs w input calls e s ok asks =
      let same : n ≡ m = omega arith in
      subst (λ x. Goes lay items 0 input (standing n regs w) calls [] [] input (standing x regs w)
      calls) same (stays lay items input (standing n regs w) calls)
  straight (i ∷ is) n m regs w input calls e s ok asks =
      let first = each n regs w i input calls s.0 ok asks.0 in
      let laid = (acts_on lay.code b [] i regs (lay.address n) w ok asks.0).1 in
      let more = straight is (suc n) m (regs_after b i regs w) (words_after b i regs w) input calls
      (omega arith) s.1 laid asks.1 in
      let count : 1 + length is ≡ length (i ∷ is) = omega arith in
      let end = standing m (straight_regs b (i ∷ is) regs w) (straight_words b (i ∷ is) regs w) in
      subst (λ k. Goes lay items k input (standing n regs w) calls [] [] input end calls) count
      (goes lay items first more)

  -- instructions that stand at an item are a stretch to the item behind them
  pub block : {is : List Instr} {d d' : Data} (n : ℕ) (input calls : List ℕ) → Good lay.code b d
      → Does lay.code b is d d' → Stands items n (plain is)
      → Goes lay items (length is) input (at n d) calls [] [] input (at (n + length is) d') calls
  block {is} {d} {d'} n input calls g does s =
      let whole = straight is n (n + length is) d.regs (words d) input calls refl s g.laid does.asks
      in
      subst (λ r. Goes lay items (length is) input (at n d) calls [] [] input
      (standing (n + length is) r (words d')) calls) does.regs_are
      (subst (λ w. Goes lay items (length is) input (at n d) calls [] [] input
      (standing (n + length is) (straight_regs b is d.regs (words d)) w) calls) does.words_are
      whole)
