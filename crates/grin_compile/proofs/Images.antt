-- The image of placed items starts where the items do, and its procedures have addresses of their
-- own.
use Rattle.std.proofs.Common.{◌≡◌, ◌⊎◌, ℕ, zero, suc, ◌+◌, ◌-◌, ◌*◌, ◌≤◌, ◌<◌, ◌||◌, Bool, true, false, nat_eq, List, [], ◌∷◌, ◌++◌, length, replicate, Option, Some, None, slice_get, unwrap_or, refl, sym, ap, ◌∙◌, subst, arith}
use mathlib.Core.Logic.{inl, inr}
use Rattle.std.proofs.lemmas.Bool.Decides.{nat_tests}
use Rattle.seq.proofs.Lists.{append_nil}
use Rattle.seq.proofs.Order.{compared}
use Rattle.elf32.specs.File.{words as words_bytes, program}
use Rattle.rv32_machine.specs.Memory.{Stretch, stretch_of, end_of}
use Rattle.rv32_machine.specs.Steps.{start_of}
use Rattle.rv32_steps.specs.Trace.{is_one_of, AllDifferent}
use Rattle.rv32_items.specs.declared.Item.{Item}
use Rattle.rv32_items.specs.declared.Item.TheVariants.{Label}
use Rattle.rv32_items.specs.Course.{Layout, state_at}
use Rattle.rv32_items.specs.Placed.{is_instruction, Placed}
use Rattle.rv32_items.specs.Laws.{address_of, addresses_of, LabelsOccurOnce, BeforeInstructions}
use Rattle.rv32_items.specs.Flows.{begins_procedure}
use Rattle.rv32_items.proofs.Addresses.{addresses_rise}
use Rattle.rv32_items.proofs.Stands.{stands}
use Rattle.rv32_select.specs.Selects.{zeros, start_point, BelowHeap}
use Rattle.grin_compile.specs.Code.{IsInCode}
use Rattle.rv32_layout.proofs.Steps.{words_length}

module _ (items : List Item) (words : List ℕ) (placed : Placed items words) where
  abbrev lay : Layout
  lay = placed.lay

  code_is : stretch_of
      (record {
        addr = 65536;
        size = 4 * length words;
        bytes = words_bytes words;
        write
            = false;
        exec = true;
      }) ≡ lay.code
  code_is =
      let n : 4 * length words - length (words_bytes words) ≡ 0 = let e = words_length words
      in omega (arith, e) in
      let b : words_bytes words ++ replicate (4 * length words - length (words_bytes words)) 0 ≡
      lay.code.bytes =
      ap (λ k. words_bytes words ++ replicate k 0) n ∙ append_nil (words_bytes words) ∙ sym
      placed.code in
      parts lay.code placed.at_first placed.rises.fixed placed.rises.runs b
    where
      parts : (c : Stretch) → c.first ≡ 65536 → c.write ≡ false → c.exec ≡ true → words_bytes words
          ++ replicate (4 * length words - length (words_bytes words)) 0 ≡ c.bytes
          → record {
            first = 65536;
            write = false;
            exec = true;
            bytes = words_bytes words
                ++ replicate (4 * length words - length (words_bytes words)) 0;
          } ≡ c
      parts c f w x b = λ i. record
          { first = sym f i; write = sym w i; exec = sym x i; bytes = b i }

  pub starts : (width cells stack : ℕ) → start_of (program words (4 * width * cells) stack) ≡
      state_at lay items (start_point width cells stack lay)
  starts width cells stack =
      let pc : 65536 ≡ lay.address 0 = sym placed.at_first ∙ sym placed.rises.first in
      let heap : stretch_of
      (record {
        addr = 0x50000000;
        size = 4 * width * cells;
        bytes = [];
        write = true;
        exec
            = false;
      }) ≡ zeros 0x50000000 (4 * width * cells)
      = zeros_of 0x50000000 (4 * width * cells) in
      let frames : stretch_of
      (record {
        addr = 0x78000000 - stack;
        size = stack;
        bytes = [];
        write = true;
        exec
            = false;
      }) ≡ zeros (0x78000000 - stack) stack = zeros_of (0x78000000 - stack) stack in
      λ i. record { regs = λ r. 0; pc = pc i; memory = code_is i ∷ (heap i ∷ (frames i ∷ [])) }
    where
      zeros_of : (first size : ℕ) → stretch_of
          (record { addr = first; size = size; bytes = []; write = true; exec = false }) ≡ zeros
          first size
      zeros_of first size =
          let e : size - 0 ≡ size = omega arith in
          λ i. record { first = first; write = true; exec = false; bytes = replicate (e i) 0 }

  -- ---- addresses

  pub code_ends : end_of lay.code ≡ 65536 + 4 * length words
  code_ends =
      let l : length lay.code.bytes ≡ 4 * length words = ap length placed.code ∙ words_length words
      in
      let f = placed.at_first in
      omega (arith, l, f)

  -- at most 2^28 words from 65536 on end before the heap
  pub below_heap : length words ≤ 268435456 → BelowHeap lay
  below_heap few = let ends = code_ends in omega (arith, ends, few)

  module _ (begins : List ℕ) (stand : LabelsOccurOnce begins items)
      (behind : BeforeInstructions begins items) where
    -- where a label of a procedure stands: with an instruction right behind it
    record At (b : ℕ) : Type 0 where
      pub item : ℕ
      pub found : address_of lay items b ≡ lay.address item
      pub here : slice_get items item ≡ Some (Label b)
      pub within : suc item < length items
      pub same : lay.address (suc item) ≡ lay.address item
      pub on : lay.address (suc item) + 4 ≤ lay.address (suc (suc item))
      pub instruction : is_instruction (slice_get items (suc item)) ≡ true

    within_list : {A : Type 0} (xs : List A) (n : ℕ) (x : A) → slice_get xs n ≡ Some x
        → n < length xs
    within_list [] n x e = cc
    within_list (y ∷ xs) zero x e = omega arith
    within_list (y ∷ xs) (suc n) x e = let h = within_list xs n x e in omega arith

    instruction_there : (o : Option Item) → is_instruction o ≡ true → (i : Item) × (o ≡ Some i)
    instruction_there None h = cc
    instruction_there (Some i) h = (i, refl)

    stands_at : (b : ℕ) → is_one_of begins b ≡ true → At b
    stands_at b one =
        let s = stands b items (stand b one) in
        let is : begins_procedure begins (slice_get items s.0) ≡ true
        = ap (begins_procedure begins) s.1.1.here ∙ one in
        let i = instruction_there (slice_get items (suc s.0)) (behind s.0 is) in
        record {
          item = s.0;
          found = ap (λ o. lay.address (unwrap_or o 0)) s.1.0;
          here = s.1.1.here;
          within = within_list items (suc s.0) i.0 i.1;
          same = placed.rises.labels s.0 b s.1.1.here;
          on = placed.rises.rises (suc s.0) (behind s.0 is);
          instruction = behind s.0 is;
        }

    in_code_at : (b : ℕ) → is_one_of begins b ≡ true → IsInCode words (address_of lay items b)
    in_code_at b one =
        let s = stands_at b one in
        let low = addresses_rise items lay placed.rises 0 s.item (omega arith)
        (let h = s.within in omega arith) in
        let high = addresses_rise items lay placed.rises (suc (suc s.item)) (length items)
        (let h = s.within in omega arith) (omega arith) in
        let first = placed.rises.first in
        let at = placed.at_first in
        let last = placed.rises.last in
        let ends = code_ends in
        let f = s.found in
        let same = s.same in
        let on = s.on in
        (omega (arith, low, first, at, f), omega (arith, high, last, ends, f, same, on))

    apart : (b c : ℕ) → is_one_of begins b ≡ true → is_one_of begins c ≡ true → (b ≡ c → ⊥)
        → address_of lay items b ≡ address_of lay items c → ⊥
    apart b c one two differ e = go (stands_at b one) (stands_at c two)
        (compared (stands_at b one).item (stands_at c two).item)
      where
        same_label : Some (Label b) ≡ Some (Label c) → b ≡ c
        same_label h = cc

        before : (x y : ℕ) (s : At x) (t : At y) → address_of lay items x ≡ address_of lay items y
            → s.item < t.item → ⊥
        before x y s t e less = far (compared t.item (suc s.item))
          where
            far : (t.item < suc s.item) ⊎ ((t.item ≡ suc s.item) ⊎ (suc s.item < t.item)) → ⊥
            far (inl h) = omega arith
            far (inr (inl h)) = let z : is_instruction (Some (Label y)) ≡ true
                = ap is_instruction (sym t.here ∙ ap (slice_get items) h) ∙ s.instruction in cc
            far (inr (inr h)) =
                let up = addresses_rise items lay placed.rises (suc (suc s.item)) t.item
                (omega arith) (let w = t.within in omega arith) in
                let f = s.found in
                let g = t.found in
                let same = s.same in
                let on = s.on in
                omega (arith, up, f, g, same, on, e)

        go : (s : At b) (t : At c) → (s.item < t.item) ⊎ ((s.item ≡ t.item) ⊎ (t.item < s.item)) → ⊥
        go s t (inl h) = before b c s t e h
        go s t (inr (inl h)) = differ (same_label (sym s.here ∙ ap (slice_get items) h ∙ t.here))
        go s t (inr (inr h)) = before c b t s (sym e) h

    -- an address of a label of the list is that of one of them
    one_mapped : (bs : List ℕ) (a : ℕ) → is_one_of (addresses_of lay items bs) a ≡ true → (b : ℕ)
        × ((is_one_of bs b ≡ true) × (address_of lay items b ≡ a))
    one_mapped [] a h = cc
    one_mapped (b ∷ bs) a h = go (nat_eq a (address_of lay items b)) refl (λ r. one_mapped bs a r)
      where
        here : nat_eq b b ≡ true
        here = grind (arith, nat_tests)

        or_true : (t : Bool) → (t || true) ≡ true
        or_true true = refl
        or_true false = refl

        go : (t : Bool) → nat_eq a (address_of lay items b) ≡ t
            → (is_one_of (addresses_of lay items bs) a ≡ true → (c : ℕ)
            × ((is_one_of bs c ≡ true) × (address_of lay items c ≡ a)))
            → (c : ℕ) × ((is_one_of (b ∷ bs) c ≡ true) × (address_of lay items c ≡ a))
        go true q rest = let e : a ≡ address_of lay items b = grind (arith, nat_tests)
            in (b, (ap (λ t. t || is_one_of bs b) here, sym e))
        go false q rest =
            let r = rest (sym (ap (λ t. t || is_one_of (addresses_of lay items bs) a) q) ∙ h) in
            (r.0, (ap (λ t. nat_eq r.0 b || t) r.1.0 ∙ or_true (nat_eq r.0 b), r.1.1))

    not_there : (b : ℕ) (bs : List ℕ) → is_one_of begins b ≡ true
        → ((c : ℕ) → is_one_of bs c ≡ true → is_one_of begins c ≡ true) → is_one_of bs b ≡ false
        → is_one_of (addresses_of lay items bs) (address_of lay items b) ≡ false
    not_there b bs one all miss = go
        (is_one_of (addresses_of lay items bs) (address_of lay items b)) refl
      where
        go : (t : Bool) → is_one_of (addresses_of lay items bs) (address_of lay items b) ≡ t
            → is_one_of (addresses_of lay items bs) (address_of lay items b) ≡ false
        go false q = q
        go true q =
            let r = one_mapped bs (address_of lay items b) q in
            absurd (apart b r.0 one (all r.0 r.1.0) (λ e. clash e r.1.0) (sym r.1.1))
          where
            clash : {c : ℕ} → b ≡ c → is_one_of bs c ≡ true → ⊥
            clash e h = let z : true ≡ false = sym h ∙ ap (is_one_of bs) (sym e) ∙ miss in cc

    different_of : (bs : List ℕ) → ((c : ℕ) → is_one_of bs c ≡ true → is_one_of begins c ≡ true)
        → AllDifferent bs → AllDifferent (addresses_of lay items bs)
    different_of [] all d = tt
    different_of (b ∷ bs) all d = (
      not_there b bs (all b (first b bs)) (λ c h. all c (next c b bs h)) d.0,
      different_of bs (λ c h. all c (next c b bs h)) d.1,
    )
      where
        first : (b : ℕ) (bs : List ℕ) → is_one_of (b ∷ bs) b ≡ true
        first b bs = let h : nat_eq b b ≡ true = grind (arith, nat_tests)
            in ap (λ t. t || is_one_of bs b) h

        or_true : (t : Bool) → (t || true) ≡ true
        or_true true = refl
        or_true false = refl

        next : (c b : ℕ) (bs : List ℕ) → is_one_of bs c ≡ true → is_one_of (b ∷ bs) c ≡ true
        next c b bs h = ap (λ t. nat_eq c b || t) h ∙ or_true (nat_eq c b)

    pub different : AllDifferent begins → AllDifferent (addresses_of lay items begins)
    different d = different_of begins (λ c h. h) d

    pub in_code : (a : ℕ) → is_one_of (addresses_of lay items begins) a ≡ true → IsInCode words a
    in_code a h = let r = one_mapped begins a h in subst (IsInCode words) r.1.1
        (in_code_at r.0 r.1.0)
