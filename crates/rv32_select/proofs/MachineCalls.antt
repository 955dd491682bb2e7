-- Code around a call to the machine: registers wait in x4 to x7, and come back.
use Rattle.std.proofs.Common.{◌≡◌, ◌≢◌, ℕ, suc, ◌+◌, ◌*◌, ◌%◌, ◌^◌, ◌<◌, ◌≤◌, List, [], ◌∷◌, ◌++◌, length, get_or, set, Bool, true, false, Some, inl, inr, refl, sym, ap, ◌∙◌, subst, arith, get_or-set_same, get_or-set_other}
use Rattle.std.specs.Prelude.{pos, nat_eq, slice_get}
use Rattle.std.proofs.lemmas.Bool.Decides.{nat_tests}
use Rattle.std.proofs.Math.ListN.{length-set}
use Rattle.seq.proofs.Truth.{two_ways}
use Rattle.rv32_isa.specs.declared.instr.Instr.{Instr}
use Rattle.rv32_isa.specs.declared.instr.Instr.TheVariants.{OpImm, Ecall}
use Rattle.rv32_isa.specs.declared.instr.ImmKind.TheVariants.{Addi}
use Rattle.rv32_machine.specs.Memory.{Stretch}
use Rattle.rv32_machine.specs.Arithmetic.{plus}
use Rattle.rv32_machine.specs.Steps.{set_reg}
use Rattle.rv32_steps.specs.Data.{Bases, IsWord}
use Rattle.rv32_steps.specs.Straight.{register_value}
use Rattle.rv32_steps.specs.Laws.{HasCallRegisters}
use Rattle.rv32_steps.proofs.Bytes.{bytes_are_written, bytes_are_asked, bytes_are_taken}
use Rattle.rv32_items.specs.declared.Item.{Item}
use Rattle.rv32_items.specs.declared.Item.TheVariants.{Plain}
use Rattle.rv32_items.specs.Course.{Layout, Written, Asked, turn, turn_of, behind, behind_plain, label_of}
use Rattle.rv32_select.specs.Emit.{aside, back}
use Rattle.rv32_select.proofs.Courses.{Goes, one_written, one_asked}
use Rattle.rv32_select.proofs.Straight.{Data, words, with_reg, with_stack, Good, Does, does_on, does_imm, at, standing, stack_read, stack_written}
use Rattle.rv32_select.proofs.NumberParts.{value_is, does_number}
use Rattle.rv32_machine.proofs.Registers.{set_there}

abbrev pub four : (file number : ℕ) → List Instr
four file number = OpImm Addi 10 0 (pos file) ∷ OpImm Addi 11 2 (pos 0) ∷ OpImm Addi 12 0 (pos 1) ∷
    OpImm Addi 17 0 (pos number) ∷ []

-- the data at the call, and those when the registers are back
abbrev pub put_aside : Data → Data
put_aside d = with_reg (with_reg (with_reg (with_reg d 5 (d.regs 10)) 6 (d.regs 11)) 7 (d.regs 12))
    4 (d.regs 17)

abbrev pub at_call : (file number : ℕ) → Data → Data
at_call file number d = with_reg
    (with_reg (with_reg (with_reg (put_aside d) 10 file) 11 (d.regs 2)) 12 1) 17 number

abbrev pub brought_back : (heap_end : ℕ) → Data → Data
brought_back heap_end d = with_reg
    (with_reg (with_reg (with_reg (with_reg d 10 (d.regs 5)) 11 (d.regs 6)) 12 (d.regs 7)) 17
    (d.regs 4)) 4 heap_end

module _ (c : Stretch) (b : Bases) where
  -- a register gets what another one has
  moved : (r q v : ℕ) (d : Data) → Good c b d → 1 ≤ q → v < 2 ^ 32 → d.regs q ≡ v
      → Does c b (OpImm Addi r q (pos 0) ∷ []) d (with_reg d r v)
  moved r q v d g one small e =
      let is : register_value d.regs q ≡ v = value_is d.regs q one ∙ e in
      does_imm c b Addi r q (pos 0) v d g
      (ap (λ x. plus x 0) is ∙ (let y : plus v 0 ≡ v = omega arith in y)) small

  small_reg : (d : Data) → Good c b d → (r : ℕ) → 1 ≤ r → r ≢ 7 → d.regs r < 2 ^ 32
  small_reg d g r one ne = subst (λ x. x < 2 ^ 32) (value_is d.regs r one) (g.small r ne)

  pub aside_done : (file number : ℕ) (d : Data) → Good c b d → file < 2048 → number < 2048
      → Does c b (aside ++ four file number) d (at_call file number d)
  aside_done file number d g fs ns =
      let s10 = small_reg d g 10 (omega arith) (omega arith) in
      let s11 = small_reg d g 11 (omega arith) (omega arith) in
      let s12 = small_reg d g 12 (omega arith) (omega arith) in
      let s17 = small_reg d g 17 (omega arith) (omega arith) in
      let s2 = small_reg d g 2 (omega arith) (omega arith) in
      let a1 = moved 5 10 (d.regs 10) d g (omega arith) s10 refl in
      let d1 = with_reg d 5 (d.regs 10) in
      let a2 = moved 6 11 (d.regs 11) d1 a1.good (omega arith) s11 refl in
      let d2 = with_reg d1 6 (d.regs 11) in
      let a3 = moved 7 12 (d.regs 12) d2 a2.good (omega arith) s12 refl in
      let d3 = with_reg d2 7 (d.regs 12) in
      let a4 = moved 4 17 (d.regs 17) d3 a3.good (omega arith) s17 refl in
      let d4 = with_reg d3 4 (d.regs 17) in
      let a5 = does_imm c b Addi 10 0 (pos file) file d4 a4.good
      (let y : plus 0 file ≡ file = omega arith in y) (omega arith) in
      let d5 = with_reg d4 10 file in
      let a6 = moved 11 2 (d.regs 2) d5 a5.good (omega arith) s2 refl in
      let d6 = with_reg d5 11 (d.regs 2) in
      let a7 = does_imm c b Addi 12 0 (pos 1) 1 d6 a6.good refl (omega arith) in
      let d7 = with_reg d6 12 1 in
      let a8 = does_imm c b Addi 17 0 (pos number) number d7 a7.good
      (let y : plus 0 number ≡ number = omega arith in y) (omega arith) in
      does_on c b a1
      (does_on c b a2
      (does_on c b a3 (does_on c b a4 (does_on c b a5 (does_on c b a6 (does_on c b a7 a8))))))

  pub back_done : (heap_end : ℕ) (d : Data) → Good c b d → heap_end < 2 ^ 32 → d.regs 7 < 2 ^ 32
      → Does c b (back heap_end) d (brought_back heap_end d)
  back_done heap_end d g hs s7 =
      let s5 = small_reg d g 5 (omega arith) (omega arith) in
      let s6 = small_reg d g 6 (omega arith) (omega arith) in
      let s4 = small_reg d g 4 (omega arith) (omega arith) in
      let a1 = moved 10 5 (d.regs 5) d g (omega arith) s5 refl in
      let d1 = with_reg d 10 (d.regs 5) in
      let a2 = moved 11 6 (d.regs 6) d1 a1.good (omega arith) s6 refl in
      let d2 = with_reg d1 11 (d.regs 6) in
      let a3 = moved 12 7 (d.regs 7) d2 a2.good (omega arith) s7 refl in
      let d3 = with_reg d2 12 (d.regs 7) in
      let a4 = moved 17 4 (d.regs 4) d3 a3.good (omega arith) s4 refl in
      let d4 = with_reg d3 17 (d.regs 4) in
      let a5 = does_number c b 4 heap_end d4 a4.good (omega arith) hs in
      does_on c b a1 (does_on c b a2 (does_on c b a3 (does_on c b a4 a5)))

-- a register that is none of those
pub aside_other : (file number r : ℕ) (d : Data) → 8 ≤ r → r ≢ 10 → r ≢ 11 → r ≢ 12 → r ≢ 17
    → (at_call file number d).regs r ≡ d.regs r
aside_other file number r d lo n10 n11 n12 n17 =
    set_there (with_reg (with_reg (with_reg (put_aside d) 10 file) 11 (d.regs 2)) 12 1).regs 17
    number r n17
    ∙ set_there (with_reg (with_reg (put_aside d) 10 file) 11 (d.regs 2)).regs 12 1 r n12
    ∙ set_there (with_reg (put_aside d) 10 file).regs 11 (d.regs 2) r n11
    ∙ set_there (put_aside d).regs 10 file r n10
    ∙ set_there (with_reg (with_reg (with_reg d 5 (d.regs 10)) 6 (d.regs 11)) 7 (d.regs 12)).regs 4
    (d.regs 17) r (omega arith)
    ∙ set_there (with_reg (with_reg d 5 (d.regs 10)) 6 (d.regs 11)).regs 7 (d.regs 12) r
    (omega arith)
    ∙ set_there (with_reg d 5 (d.regs 10)).regs 6 (d.regs 11) r (omega arith)
    ∙ set_there d.regs 5 (d.regs 10) r (omega arith)

pub back_other : (heap_end r : ℕ) (d : Data) → 8 ≤ r → r ≢ 10 → r ≢ 11 → r ≢ 12 → r ≢ 17
    → (brought_back heap_end d).regs r ≡ d.regs r
back_other heap_end r d lo n10 n11 n12 n17 =
    set_there
    (with_reg (with_reg (with_reg (with_reg d 10 (d.regs 5)) 11 (d.regs 6)) 12 (d.regs 7)) 17
    (d.regs 4)).regs 4 heap_end r (omega arith)
    ∙ set_there (with_reg (with_reg (with_reg d 10 (d.regs 5)) 11 (d.regs 6)) 12 (d.regs 7)).regs 17
    (d.regs 4) r n17
    ∙ set_there (with_reg (with_reg d 10 (d.regs 5)) 11 (d.regs 6)).regs 12 (d.regs 7) r n12
    ∙ set_there (with_reg d 10 (d.regs 5)).regs 11 (d.regs 6) r n11
    ∙ set_there d.regs 10 (d.regs 5) r n10

-- where the registers that waited are what they were, they come back as they were
pub all_back : (heap_end : ℕ) (e d : Data) → e.regs 5 ≡ d.regs 10 → e.regs 6 ≡ d.regs 11
    → e.regs 7 ≡ d.regs 12 → e.regs 4 ≡ d.regs 17
    → ((r : ℕ) → 8 ≤ r → r ≢ 10 → r ≢ 11 → r ≢ 12 → r ≢ 17 → e.regs r ≡ d.regs r) → (r : ℕ) → 8 ≤ r
    → (brought_back heap_end e).regs r ≡ d.regs r
all_back heap_end e d e5 e6 e7 e4 others r lo = by_ten (nat_eq r 10) refl
  where
    rest : (r : ℕ) → 8 ≤ r → r ≢ 10 → r ≢ 11 → r ≢ 12 → (t : Bool) → nat_eq r 17 ≡ t
        → (brought_back heap_end e).regs r ≡ d.regs r
    rest r lo n10 n11 n12 true h = let is : 17 ≡ r = grind (arith, nat_tests)
        in subst (λ x. (brought_back heap_end e).regs x ≡ d.regs x) is e4
    rest r lo n10 n11 n12 false h = let n17 : r ≢ 17 = grind (arith, nat_tests)
        in back_other heap_end r e lo n10 n11 n12 n17 ∙ others r lo n10 n11 n12 n17

    by_twelve : r ≢ 10 → r ≢ 11 → (t : Bool) → nat_eq r 12 ≡ t
        → (brought_back heap_end e).regs r ≡ d.regs r
    by_twelve n10 n11 true h = let is : 12 ≡ r = grind (arith, nat_tests)
        in subst (λ x. (brought_back heap_end e).regs x ≡ d.regs x) is e7
    by_twelve n10 n11 false h = rest r lo n10 n11 (grind (arith, nat_tests)) (nat_eq r 17) refl

    by_eleven : r ≢ 10 → (t : Bool) → nat_eq r 11 ≡ t → (brought_back heap_end e).regs r ≡ d.regs r
    by_eleven n10 true h = let is : 11 ≡ r = grind (arith, nat_tests)
        in subst (λ x. (brought_back heap_end e).regs x ≡ d.regs x) is e6
    by_eleven n10 false h = by_twelve n10 (grind (arith, nat_tests)) (nat_eq r 12) refl

    by_ten : (t : Bool) → nat_eq r 10 ≡ t → (brought_back heap_end e).regs r ≡ d.regs r
    by_ten true h = let is : 10 ≡ r = grind (arith, nat_tests)
        in subst (λ x. (brought_back heap_end e).regs x ≡ d.regs x) is e5
    by_ten false h = by_eleven (grind (arith, nat_tests)) (nat_eq r 11) refl

-- a word that changed and came back
pub word_back : (ws : List ℕ) (j v t : ℕ) → j < length ws
    → get_or (set (set ws j v) j (get_or ws j 0)) t 0 ≡ get_or ws t 0
word_back ws j v t lt = elim (two_ways (nat_eq t j)) [
  | inl e ↦
      let is : t ≡ j = grind (arith, nat_tests) in
      let longer = length-set ws j v in
      ap (λ x. get_or (set (set ws j v) j (get_or ws j 0)) x 0) is ∙ get_or-set_same (set ws j v) j
      (get_or ws j 0) 0 (omega arith) ∙ ap (λ x. get_or ws x 0) (sym is)
  | inr e ↦
      let ne : t ≢ j = grind (arith, nat_tests) in
      get_or-set_other (set ws j v) j t (get_or ws j 0) 0 ne ∙ get_or-set_other ws j t v 0 ne
]

-- ---- the calls

module _ (b : Bases) (lay : Layout) (items : List Item) where
  in_stack_word : (d : Data) (t : ℕ) → t < length d.stack → IsWord b (words d) (b.stack + 4 * t)
  in_stack_word d t lt = inr (omega arith, omega arith)

  pub write_call : (n t : ℕ) (d : Data) (input calls : List ℕ)
      → slice_get items n ≡ Some (Plain Ecall) → Good lay.code b d → t < length d.stack
      → d.regs 17 ≡ 64 → d.regs 10 ≡ 1 → d.regs 11 ≡ b.stack + 4 * t → d.regs 12 ≡ 1
      → Goes lay items 1 input (at b lay items n d) calls (get_or d.stack t 0 % 256 ∷ []) [] input
      (at b lay items (suc n) (with_reg d 10 1)) calls
  unfolding turn
  write_call n t d input calls here g lt n17 n10 n11 n12 =
      let p = at b lay items n d in
      let r : HasCallRegisters 64 1 (b.stack + 4 * t) 1 d.regs
      = record { number_is = n17; file_is = n10; address_is = n11; len_is = n12 } in
      let acts = bytes_are_written lay.code b [] d.regs (lay.address n) (words d) (b.stack + 4 * t)
      g.laid (in_stack_word d t lt) r in
      let q = at b lay items (suc n) (with_reg d 10 1) in
      one_written lay items p q (b.stack + 4 * t) 1 (get_or d.stack t 0 % 256 ∷ []) input calls
      (ap (turn_of lay items p) here ∙ ap (behind_plain lay items p) acts ∙ ap
      (λ v. Written (b.stack + 4 * t) 1 (v % 256 ∷ []) q)
      (stack_read lay.code b d (b.stack + 4 * t) t refl))
      (ap label_of here)

  read_turn : (n t : ℕ) (d : Data) → slice_get items n ≡ Some (Plain Ecall) → Good lay.code b d
      → t < length d.stack → d.regs 17 ≡ 63 → d.regs 10 ≡ 0 → d.regs 11 ≡ b.stack + 4 * t
      → d.regs 12 ≡ 1 → turn lay items (at b lay items n d) ≡ Asked (b.stack + 4 * t)
  unfolding turn
  read_turn n t d here g lt n17 n10 n11 n12 =
      let p = at b lay items n d in
      let r : HasCallRegisters 63 0 (b.stack + 4 * t) 1 d.regs
      = record { number_is = n17; file_is = n10; address_is = n11; len_is = n12 } in
      let acts = bytes_are_asked lay.code b [] d.regs (lay.address n) (words d) (b.stack + 4 * t)
      g.laid (in_stack_word d t lt) r in
      ap (turn_of lay items p) here ∙ ap (behind_plain lay items p) acts

  pub read_call_ends : (n t : ℕ) (d : Data) (calls : List ℕ)
      → slice_get items n ≡ Some (Plain Ecall) → Good lay.code b d → t < length d.stack
      → d.regs 17 ≡ 63 → d.regs 10 ≡ 0 → d.regs 11 ≡ b.stack + 4 * t → d.regs 12 ≡ 1
      → Goes lay items 1 [] (at b lay items n d) calls [] [] []
      (at b lay items (suc n) (with_reg d 10 0)) calls
  read_call_ends n t d calls here g lt n17 n10 n11 n12 =
      one_asked lay items (at b lay items n d) (b.stack + 4 * t) [] calls
      (read_turn n t d here g lt n17 n10 n11 n12) (ap label_of here)

  pub read_call_takes : (n t byte : ℕ) (d : Data) (input calls : List ℕ)
      → slice_get items n ≡ Some (Plain Ecall) → Good lay.code b d → t < length d.stack → byte < 256
      → get_or d.stack t 0 ≡ 0 → d.regs 17 ≡ 63 → d.regs 10 ≡ 0 → d.regs 11 ≡ b.stack + 4 * t
      → d.regs 12 ≡ 1
      → Goes lay items 1 (byte ∷ input) (at b lay items n d) calls [] [] input
      (at b lay items (suc n) (with_stack (with_reg d 10 1) (set d.stack t byte))) calls
  read_call_takes n t byte d input calls here g lt small none n17 n10 n11 n12 =
      let p = at b lay items n d in
      let one = one_asked lay items p (b.stack + 4 * t) (byte ∷ input) calls
      (read_turn n t d here g lt n17 n10 n11 n12) (ap label_of here) in
      let taken = bytes_are_taken lay.code b [] d.regs (lay.address n) (words d) (b.stack + 4 * t)
      byte g.laid (in_stack_word d t lt)
      (stack_read lay.code b d (b.stack + 4 * t) t refl ∙ none) small n11 in
      let to = ap (behind n) taken.0 ∙ ap
      (λ w. standing b lay items (suc n) (set_reg d.regs 10 1) w)
      (stack_written lay.code b d (b.stack + 4 * t) t byte refl) in
      subst (λ q. Goes lay items 1 (byte ∷ input) p calls [] [] input q calls) to one
