-- The data as a procedure sees it: its registers and the slots of its frame as spots, and how moves
-- change them.
use Rattle.std.proofs.Common.{◌≡◌, ◌≢◌, ℕ, suc, ◌+◌, ◌-◌, ◌*◌, ◌/◌, ◌%◌, ◌^◌, ◌<◌, ◌≤◌, List, [], ◌∷◌, ◌++◌, length, get_or, set, cond, Bool, true, false, ◌⊎◌, inl, inr, refl, sym, ap, ◌∙◌, subst, arith, get_or-set_same, get_or-set_other}
use Rattle.std.specs.Prelude.{pos, negsuc, nat_eq, nat_lt, if◌then◌else◌}
use Rattle.std.proofs.lemmas.Bool.Decides.{nat_tests}
use Rattle.std.proofs.Math.ListN.{length-set}
use Rattle.seq.proofs.Truth.{two_ways}
use Rattle.rv32_isa.specs.declared.instr.Instr.{Instr}
use Rattle.rv32_isa.specs.declared.instr.Instr.TheVariants.{Lui, OpImm, Op}
use Rattle.rv32_isa.specs.declared.instr.ImmKind.TheVariants.{Addi}
use Rattle.rv32_isa.specs.declared.instr.OpKind.TheVariants as op
use Rattle.rv32_machine.specs.Memory.{Stretch}
use Rattle.rv32_machine.specs.Arithmetic.{plus, pattern}
use Rattle.rv32_machine.specs.Steps.{set_reg}
use Rattle.rv32_steps.specs.Data.{Bases}
use Rattle.rv32_steps.specs.Straight.{register_value}
use Rattle.parallel_move.specs.declared.Spot.{Spot}
use Rattle.parallel_move.specs.declared.Spot.TheVariants.{Reg, Slot, Scratch}
use Rattle.parallel_move.specs.declared.Move.{Move}
use Rattle.parallel_move.specs.Moves.{Values, same, after_move, after_moves_in_order}
use Rattle.rv32_select.specs.Emit.{upper, copy, slot_bytes, slot_base, reach, load_slot, store_slot, from_spot, slot_from, move_to, moves_code}
use Rattle.rv32_select.proofs.Straight.{Data, with_reg, with_stack, Good, Does, does_nothing, does_to, does_on, does_lui, does_imm, does_op, does_load_stack, does_store_stack}
use Rattle.rv32_select.proofs.NumberParts.{value_is, again, nothing_set, parts_sum}
use Rattle.rv32_machine.proofs.Registers.{set_there}
use Rattle.rv32_isa.specs.Bits.{lower}

abbrev pub put : Spot → ℕ → Values → Values
put s v u t = cond (same t s) v (u t)

module _ (c : Stretch) (b : Bases) (j slots : ℕ) where
  -- what stands at each spot of the frame whose first word is the j-th of the stack
  abbrev pub spots : Data → Values
  spots d (Reg r) = d.regs r
  spots d (Slot k) = get_or d.stack (j + (1 + k)) 0
  spots d Scratch = d.regs 5

  pub record InFrame (d : Data) : Type 0 where
    pub sp : d.regs 2 ≡ b.stack + 4 * j
    pub room : j + (1 + slots) ≤ length d.stack

  -- a spot of this frame: a register of variables, a slot, or the scratch spot
  abbrev pub Ok : Spot → Type 0
  Ok (Reg r) = (8 ≤ r) × (r < 32)
  Ok (Slot k) = k < slots
  Ok Scratch = Unit {0}

  abbrev pub Outside : ℕ → Type 0
  Outside t = (t ≤ j) ⊎ (j + (1 + slots) ≤ t)

  -- what a piece of code leaves as it was, beside registers of variables and slots
  pub record Kept (d d' : Data) : Type 0 where
    pub heap : d'.heap ≡ d.heap
    pub link : d'.regs 1 ≡ d.regs 1
    pub frame : d'.regs 2 ≡ d.regs 2
    pub next : d'.regs 3 ≡ d.regs 3
    pub end : d'.regs 4 ≡ d.regs 4
    pub words : length d'.stack ≡ length d.stack
    pub outside : (t : ℕ) → Outside t → get_or d'.stack t 0 ≡ get_or d.stack t 0

  pub kept : (d : Data) → Kept d d
  kept d = record {
    heap = refl;
    link = refl;
    frame = refl;
    next = refl;
    end = refl;
    words = refl;
    outside
        = λ t h. refl;
  }

  pub kept_on : {d e f : Data} → Kept d e → Kept e f → Kept d f
  kept_on h k = record {
    heap = k.heap ∙ h.heap;
    link = k.link ∙ h.link;
    frame = k.frame ∙ h.frame;
    next = k.next ∙ h.next;
    end = k.end ∙ h.end;
    words = k.words ∙ h.words;
    outside = λ t o. k.outside t o ∙ h.outside t o;
  }

  pub in_frame : {d e : Data} → InFrame d → Kept d e → InFrame e
  in_frame f k = record
      { sp = k.frame ∙ f.sp; room = let r = f.room in let w = k.words in omega arith }

  -- a register that is none of x1 to x4
  pub kept_reg : (d : Data) (r v : ℕ) → 5 ≤ r → Kept d (with_reg d r v)
  kept_reg d r v h = record {
    heap = refl;
    link = set_there d.regs r v 1 (omega arith);
    frame = set_there d.regs r v 2 (omega arith);
    next = set_there d.regs r v 3 (omega arith);
    end = set_there d.regs r v 4 (omega arith);
    words = refl;
    outside = λ t o. refl;
  }

  pub kept_slot : (d : Data) (k v : ℕ) → k < slots → Kept d
      (with_stack d (set d.stack (j + (1 + k)) v))
  kept_slot d k v lt = record {
    heap = refl;
    link = refl;
    frame = refl;
    next = refl;
    end = refl;
    words = length-set d.stack (j + (1 + k)) v;
    outside = λ t o.
        let ne : t ≢ j + (1 + k) = elim o [ inl a ↦ omega arith | inr b ↦ omega arith ] in
        get_or-set_other d.stack (j + (1 + k)) t v 0 ne;
  }

  -- ---- how a register or a slot that changes is seen

  pub seen_reg : (d : Data) (r v : ℕ) → 8 ≤ r → (s : Spot) → Ok s
      → spots (with_reg d r v) s ≡ put (Reg r) v (spots d) s
  seen_reg d r v h (Reg q) ok = refl
  seen_reg d r v h (Slot k) ok = refl
  seen_reg d r v h Scratch ok = set_there d.regs r v 5 (omega arith)

  pub seen_scratch : (d : Data) (v : ℕ) (s : Spot) → Ok s
      → spots (with_reg d 5 v) s ≡ put Scratch v (spots d) s
  seen_scratch d v (Reg q) ok = let low = ok.0 in set_there d.regs 5 v q (omega arith)
  seen_scratch d v (Slot k) ok = refl
  seen_scratch d v Scratch ok = refl

  -- registers below x8 but for x5 are no spots
  pub unseen : (d : Data) (r v : ℕ) → r < 8 → r ≢ 5 → (s : Spot) → Ok s
      → spots (with_reg d r v) s ≡ spots d s
  unseen d r v lt ne (Reg q) ok = let low = ok.0 in set_there d.regs r v q (omega arith)
  unseen d r v lt ne (Slot k) ok = refl
  unseen d r v lt ne Scratch ok = set_there d.regs r v 5 (omega arith)

  pub seen_slot : (d : Data) (k v : ℕ) → InFrame d → k < slots → (s : Spot)
      → spots (with_stack d (set d.stack (j + (1 + k)) v)) s ≡ put (Slot k) v (spots d) s
  seen_slot d k v f lt (Reg q) = refl
  seen_slot d k v f lt Scratch = refl
  seen_slot d k v f lt (Slot i) = elim (two_ways (nat_eq i k)) [
    | inl e ↦
        let is : i ≡ k = grind (arith, nat_tests) in
        let room : j + (1 + k) < length d.stack = let r = f.room in omega arith in
        ap (λ x. get_or (set d.stack (j + (1 + k)) v) (j + (1 + x)) 0) is ∙ get_or-set_same d.stack
        (j + (1 + k)) v 0 room ∙ sym (ap (λ b. cond b v (get_or d.stack (j + (1 + i)) 0)) e)
    | inr e ↦
        let ne : j + (1 + i) ≢ j + (1 + k) = let apart : i ≢ k = grind (arith, nat_tests)
        in omega arith in
        get_or-set_other d.stack (j + (1 + k)) (j + (1 + i)) v 0 ne ∙ sym
        (ap (λ b. cond b v (get_or d.stack (j + (1 + i)) 0)) e)
  ]

  -- ---- slots are loaded and stored; x7 may change on the way

  slot_place : (k : ℕ) (d : Data) → Good c b d → InFrame d → k < slots
      → plus (slot_bytes k) (d.regs 2) ≡ b.stack + 4 * (j + (1 + k))
  slot_place k d g f lt = let sp = f.sp in let room = f.room in let top = g.top in omega arith

  slot_small : (k : ℕ) (d : Data) → Good c b d → InFrame d → k < slots → slot_bytes k < 2 ^ 32
  slot_small k d g f lt = let room = f.room in let top = g.top in omega arith

  -- the register from which a slot is reached, and what the data are then
  pub record Reached (k : ℕ) (d : Data) : Type 0 where
    pub seven : ℕ
    pub does : Does c b (reach k) d (with_reg d 7 seven)
    pub place : plus (register_value (set_reg d.regs 7 seven) (slot_base k))
        (pattern (lower (slot_bytes k))) ≡ b.stack + 4 * (j + (1 + k))

  pub reached : (k : ℕ) (d : Data) → Good c b d → InFrame d → k < slots → Reached k d
  reached k d g f lt = by_test (nat_lt (slot_bytes k) 2048) refl
    where
      there : plus (slot_bytes k) (d.regs 2) ≡ b.stack + 4 * (j + (1 + k))
      there = slot_place k d g f lt

      made : (t : Bool) → nat_lt (slot_bytes k) 2048 ≡ t → (seven : ℕ)
          → Does c b (if t then [] else Lui 7 (upper (slot_bytes k)) ∷ Op op.Add 7 7 2 ∷ []) d
          (with_reg d 7 seven)
          → plus (register_value (set_reg d.regs 7 seven) (if t then 2 else 7))
          (pattern (lower (slot_bytes k))) ≡ b.stack + 4 * (j + (1 + k)) → Reached k d
      made t e seven does place = record {
        seven = seven;
        does = subst
            (λ x. Does c b (if x then [] else Lui 7 (upper (slot_bytes k)) ∷ Op op.Add 7 7 2 ∷ []) d
            (with_reg d 7 seven)) (sym e) does;
        place = ap
            (λ x. plus (register_value (set_reg d.regs 7 seven) (if x then 2 else 7))
            (pattern (lower (slot_bytes k)))) e ∙ place;
      }

      by_test : (t : Bool) → nat_lt (slot_bytes k) 2048 ≡ t → Reached k d
      by_test true e =
          let near : slot_bytes k < 2048 = grind (arith, nat_tests) in
          let low : nat_lt (slot_bytes k % 4096) (4096 / 2) ≡ true = let h
          : slot_bytes k % 4096 < 2048 = omega arith in grind (arith, nat_tests) in
          let part : pattern (lower (slot_bytes k)) ≡ slot_bytes k
          = ap (λ b. pattern
          (if b then pos (slot_bytes k % 4096) else negsuc (4096 - suc (slot_bytes k % 4096))))
          low ∙ omega arith in
          let two : plus (d.regs 2) (slot_bytes k) ≡ b.stack + 4 * (j + (1 + k)) = let t = there
          in omega arith in
          made true e (d.regs 7) (does_to c b (does_nothing c b d g) (sym (nothing_set d 7)))
          (ap (plus (d.regs 2)) part ∙ two)
      by_test false e =
          let n = slot_bytes k in
          let lt' = slot_small k d g f lt in
          let high = upper n * 4096 in
          let d1 = with_reg d 7 high in
          let seven = plus high (d.regs 2) in
          let first = does_lui c b 7 (upper n) d g (omega arith) in
          let second = does_op c b op.Add 7 7 2 seven d1 first.good refl (omega arith) in
          let whole = does_to c b (does_on c b first second) (again d 7 high seven) in
          made false e seven whole (parts_sum n (d.regs 2) lt' ∙ there)

  -- a register gets the word of a slot
  pub record Loaded (r k : ℕ) (d : Data) : Type 0 where
    pub seven : ℕ
    pub does : Does c b (load_slot r k) d (with_reg (with_reg d 7 seven) r (spots d (Slot k)))

  pub loaded : (r k : ℕ) (d : Data) → Good c b d → InFrame d → k < slots → Loaded r k d
  loaded r k d g f lt =
      let a = reached k d g f lt in
      let room : j + (1 + k) < length d.stack = let h = f.room in omega arith in
      let second = does_load_stack c b r (slot_base k) (lower (slot_bytes k)) (j + (1 + k))
      (with_reg d 7 a.seven) a.does.good a.place room in
      record { seven = a.seven; does = does_on c b a.does second }

  -- a slot gets what a register reads as
  pub record Saved (k r : ℕ) (d : Data) : Type 0 where
    pub seven : ℕ
    pub does : Does c b (store_slot k r) d
        (with_stack (with_reg d 7 seven) (set d.stack (j + (1 + k)) (register_value d.regs r)))

  pub saved : (k r : ℕ) (d : Data) → Good c b d → InFrame d → k < slots → r ≢ 7 → Saved k r d
  saved k r d g f lt ne =
      let a = reached k d g f lt in
      let room : j + (1 + k) < length d.stack = let h = f.room in omega arith in
      let same : register_value (set_reg d.regs 7 a.seven) r ≡ register_value d.regs r
      = ap (λ x. if nat_eq r 0 then 0 else x) (set_there d.regs 7 a.seven r ne) in
      let second = does_store_stack c b r (slot_base k) (lower (slot_bytes k)) (j + (1 + k))
      (register_value d.regs r) (with_reg d 7 a.seven) a.does.good ne a.place room same in
      record { seven = a.seven; does = does_on c b a.does second }

  -- ---- moves

  -- code that makes the spots these values, and keeps the rest
  pub record Makes (is : List Instr) (d : Data) (v : Values) : Type 0 where
    pub to : Data
    pub does : Does c b is d to
    pub spots_are : (s : Spot) → Ok s → spots to s ≡ v s
    pub keeps : Kept d to

  pub makes_nothing : (d : Data) → Good c b d → Makes [] d (spots d)
  makes_nothing d g = record
      { to = d; does = does_nothing c b d g; spots_are = λ s ok. refl; keeps = kept d }

  pub makes_on : {is js : List Instr} {d : Data} {v w : Values} (h : Makes is d v) → Makes js h.to w
      → Makes (is ++ js) d w
  makes_on h k = record {
    to = k.to;
    does = does_on c b h.does k.does;
    spots_are = k.spots_are;
    keeps
        = kept_on h.keeps k.keeps;
  }

  -- a register gets what another one has
  pub copied : (r q : ℕ) (d : Data) → Good c b d → 1 ≤ q → q ≢ 7
      → Does c b (copy r q) d (with_reg d r (d.regs q))
  copied r q d g one ne = elim (two_ways (nat_eq r q)) [
    | inl e ↦
        let is : r ≡ q = grind (arith, nat_tests) in
        let same : d ≡ with_reg d r (d.regs q) = sym (nothing_set d r) ∙ ap
        (λ x. with_reg d r (d.regs x)) is in
        subst (λ t. Does c b (if t then [] else OpImm Addi r q (pos 0) ∷ []) d
        (with_reg d r (d.regs q))) (sym e) (does_to c b (does_nothing c b d g) same)
    | inr e ↦
        let lt : d.regs q < 2 ^ 32 = subst (λ x. x < 2 ^ 32) (value_is d.regs q one) (g.small q ne)
        in
        let sum : plus (register_value d.regs q) 0 ≡ d.regs q
        = ap (λ x. plus x 0) (value_is d.regs q one) ∙ omega arith in
        subst (λ t. Does c b (if t then [] else OpImm Addi r q (pos 0) ∷ []) d
        (with_reg d r (d.regs q))) (sym e) (does_imm c b Addi r q (pos 0) (d.regs q) d g sum lt)
  ]

  -- a register gets what stands at a spot
  pub record Got (r : ℕ) (s : Spot) (d : Data) : Type 0 where
    pub seven : ℕ
    pub does : Does c b (from_spot r s) d (with_reg (with_reg d 7 seven) r (spots d s))

  pub got : (r : ℕ) (s : Spot) (d : Data) → Good c b d → InFrame d → Ok s → Got r s d
  got r (Reg q) d g f ok =
      let low = ok.0 in
      record {
        seven = d.regs 7;
        does = does_to c b (copied r q d g (omega arith) (omega arith))
            (ap (λ x. with_reg x r (d.regs q)) (sym (nothing_set d 7)));
      }
  got r (Slot k) d g f ok = let l = loaded r k d g f ok in record { seven = l.seven; does = l.does }
  got r Scratch d g f ok = record {
    seven = d.regs 7;
    does = does_to c b (copied r 5 d g (omega arith) (omega arith))
        (ap (λ x. with_reg x r (d.regs 5)) (sym (nothing_set d 7)));
  }

  seven_kept : (d : Data) (x : ℕ) → Kept d (with_reg d 7 x)
  seven_kept d x = kept_reg d 7 x (omega arith)

  seven_unseen : (d : Data) (x : ℕ) (s : Spot) → Ok s → spots (with_reg d 7 x) s ≡ spots d s
  seven_unseen d x s ok = unseen d 7 x (omega arith) (omega arith) s ok

  -- a value at one spot, where the others are as before
  put_on : (d : Data) (x : ℕ) (t s : Spot) (v : ℕ) → Ok s
      → put t v (spots (with_reg d 7 x)) s ≡ put t v (spots d) s
  put_on d x t s v ok = ap (λ u. cond (same s t) v u) (seven_unseen d x s ok)

  to_reg : (r : ℕ) (from : Spot) (d : Data) → Good c b d → InFrame d → 8 ≤ r → Ok from
      → Makes (from_spot r from) d (put (Reg r) (spots d from) (spots d))
  to_reg r from d g f h ok =
      let l = got r from d g f ok in
      let d1 = with_reg d 7 l.seven in
      record {
        to = with_reg d1 r (spots d from);
        does = l.does;
        spots_are = λ s o. seen_reg d1 r (spots d from) h s o ∙ put_on d l.seven (Reg r) s
            (spots d from) o;
        keeps = kept_on (seven_kept d l.seven) (kept_reg d1 r (spots d from) (omega arith));
      }

  to_scratch : (from : Spot) (d : Data) → Good c b d → InFrame d → Ok from
      → Makes (from_spot 5 from) d (put Scratch (spots d from) (spots d))
  to_scratch from d g f ok =
      let l = got 5 from d g f ok in
      let d1 = with_reg d 7 l.seven in
      record {
        to = with_reg d1 5 (spots d from);
        does = l.does;
        spots_are = λ s o. seen_scratch d1 (spots d from) s o ∙ put_on d l.seven Scratch s
            (spots d from) o;
        keeps = kept_on (seven_kept d l.seven) (kept_reg d1 5 (spots d from) (omega arith));
      }

  -- what a register reads as goes to a slot
  pub stores : (k r : ℕ) (d : Data) → Good c b d → InFrame d → k < slots → r ≢ 7
      → Makes (store_slot k r) d (put (Slot k) (register_value d.regs r) (spots d))
  stores k r d g f lt ne =
      let l = saved k r d g f lt ne in
      let d1 = with_reg d 7 l.seven in
      let f1 = in_frame f (seven_kept d l.seven) in
      let v = register_value d.regs r in
      record {
        to = with_stack d1 (set d.stack (j + (1 + k)) v);
        does = l.does;
        spots_are = λ s o. seen_slot d1 k v f1 lt s ∙ put_on d l.seven (Slot k) s v o;
        keeps = kept_on (seven_kept d l.seven) (kept_slot d1 k v lt);
      }

  same_slot : (i k : ℕ) → i ≡ k → (v : Values) (s : Spot) → put (Slot k) (v (Slot i)) v s ≡ v s
  same_slot i k e v (Reg r) = refl
  same_slot i k e v Scratch = refl
  same_slot i k e v (Slot n) = elim (two_ways (nat_eq n k)) [
    | inl t ↦ ap (λ b. cond b (v (Slot i)) (v (Slot n))) t ∙ ap (λ x. v (Slot x))
        (let is : n ≡ k = grind (arith, nat_tests) in e ∙ sym is)
    | inr t ↦ ap (λ b. cond b (v (Slot i)) (v (Slot n))) t
  ]

  slot_to_slot : (k i : ℕ) (d : Data) → Good c b d → InFrame d → k < slots → i < slots
      → Makes (slot_from k (Slot i)) d (put (Slot k) (spots d (Slot i)) (spots d))
  slot_to_slot k i d g f lt lt' = elim (two_ways (nat_eq k i)) [
    | inl e ↦
        let is : i ≡ k = grind (arith, nat_tests) in
        subst (λ t. Makes (if t then [] else load_slot 6 i ++ store_slot k 6) d
        (put (Slot k) (spots d (Slot i)) (spots d))) (sym e)
        (record {
          to = d;
          does = does_nothing c b d g;
          spots_are
              = λ s o. sym (same_slot i k is (spots d) s);
          keeps = kept d;
        })
    | inr e ↦
        let v = spots d (Slot i) in
        let l = loaded 6 i d g f lt' in
        let d1 = with_reg d 7 l.seven in
        let d2 = with_reg d1 6 v in
        let first : Makes (load_slot 6 i) d (spots d) = record {
          to = d2;
          does = l.does;
          spots_are = λ s o. unseen d1 6 v (omega arith) (omega arith) s o ∙ seven_unseen d l.seven
              s o;
          keeps = kept_on (seven_kept d l.seven) (kept_reg d1 6 v (omega arith));
        } in
        let second = stores k 6 d2 l.does.good (in_frame f first.keeps) lt (omega arith) in
        let second' : Makes (store_slot k 6) d2 (put (Slot k) v (spots d)) = record {
          to = second.to;
          does = second.does;
          spots_are = λ s o. second.spots_are s o ∙ ap (λ u. cond (same s (Slot k)) v u)
              (first.spots_are s o);
          keeps = second.keeps;
        } in
        subst (λ t. Makes (if t then [] else load_slot 6 i ++ store_slot k 6) d
        (put (Slot k) (spots d (Slot i)) (spots d))) (sym e) (makes_on first second')
  ]

  to_slot : (k : ℕ) (from : Spot) (d : Data) → Good c b d → InFrame d → k < slots → Ok from
      → Makes (slot_from k from) d (put (Slot k) (spots d from) (spots d))
  to_slot k (Reg q) d g f lt ok =
      let low = ok.0 in
      subst (λ x. Makes (store_slot k q) d (put (Slot k) x (spots d)))
      (value_is d.regs q (omega arith)) (stores k q d g f lt (omega arith))
  to_slot k Scratch d g f lt ok = stores k 5 d g f lt (omega arith)
  to_slot k (Slot i) d g f lt ok = slot_to_slot k i d g f lt ok

  -- one move
  pub move_made : (to from : Spot) (d : Data) → Good c b d → InFrame d → Ok to → Ok from
      → Makes (move_to to from) d (put to (spots d from) (spots d))
  move_made (Reg r) from d g f to ok = to_reg r from d g f to.0 ok
  move_made (Slot k) from d g f to ok = to_slot k from d g f to ok
  move_made Scratch from d g f to ok = to_scratch from d g f ok

  abbrev pub AllOk : List Move → Type 0
  AllOk [] = Unit {0}
  AllOk (m ∷ ms) = Ok m.to × Ok m.from × AllOk ms

  agree : (ms : List Move) → AllOk ms → (v w : Values) → ((s : Spot) → Ok s → v s ≡ w s)
      → (s : Spot) → Ok s → after_moves_in_order ms v s ≡ after_moves_in_order ms w s
  agree [] h v w e s ok = e s ok
  agree (m ∷ ms) h v w e s ok = agree ms h.2 (after_move m v) (after_move m w)
      (λ q o. ap (λ x. cond (same q m.to) x (v q)) (e m.from h.1) ∙ ap
      (λ x. cond (same q m.to) (w m.from) x) (e q o)) s ok

  -- moves, one after another
  pub moves_made : (ms : List Move) (d : Data) → Good c b d → InFrame d → AllOk ms
      → Makes (moves_code ms) d (after_moves_in_order ms (spots d))
  moves_made [] d g f h = makes_nothing d g
  moves_made (m ∷ ms) d g f h =
      let first = move_made m.to m.from d g f h.0 h.1 in
      let more = moves_made ms first.to first.does.good (in_frame f first.keeps) h.2 in
      let rest : Makes (moves_code ms) first.to (after_moves_in_order ms (after_move m (spots d)))
      = record {
        to = more.to;
        does = more.does;
        spots_are = λ s ok. more.spots_are s ok ∙ agree ms h.2 (spots first.to)
            (after_move m (spots d)) first.spots_are s ok;
        keeps = more.keeps;
      } in
      makes_on first rest
