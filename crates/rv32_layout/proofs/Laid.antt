-- Words that encode the code of items do what the items do.
use Rattle.std.proofs.Common.{◌≡◌, ◌≢◌, ℕ, suc, ◌+◌, ◌*◌, ◌/◌, ◌%◌, ◌<◌, ◌≤◌, Bool, true, false, List, [], ◌∷◌, ◌++◌, length, Option, Some, None, slice_get, refl, sym, ap, ◌∙◌, subst, arith}
use Rattle.std.specs.Prelude.{pos, if◌then◌else◌, unwrap_or}
use Rattle.std.proofs.lemmas.Option.{slice_get_within}
use Rattle.elf32.specs.File.{words as words_bytes}
use Rattle.rv32_isa.specs.declared.instr.Instr.{Instr}
use Rattle.rv32_machine.specs.Memory.{Stretch, end_of}
use Rattle.rv32_machine.specs.Arithmetic.{plus, is_taken}
use Rattle.rv32_machine.specs.Steps.{State, Outcome, Next as Next', Written as Written', Asked as Asked', Ended as Ended', Trapped as Trapped', step, act, set_reg}
use Rattle.rv32_steps.specs.Leads.{at}
use Rattle.rv32_steps.specs.Straight.{register_value}
use Rattle.rv32_steps.specs.Trace.{is_return}
use Rattle.rv32_items.specs.declared.Cond.{Cond}
use Rattle.rv32_items.specs.declared.Item.{Item}
use Rattle.rv32_items.specs.declared.Item.TheVariants.{Label, Plain, Branch, Jump}
use Rattle.rv32_items.specs.Course.{Layout, Point, Turn, Next, turn, turn_of, plain, to_item, behind_plain, label_from, address_from, kind_of}
use Rattle.rv32_items.specs.Placed.{size, size_of, IsPlain, AllPlain, LabelsStand, is_instruction, times, AddressesRise, StepsAtRisingPcs, Closes, Does, steps, Placed}
use Rattle.rv32_layout.specs.declared.form.Way.{Way}
use Rattle.rv32_layout.specs.Places.{place, code, code_at, width_in, way_at, goal, Encode}
use Rattle.rv32_layout.proofs.Counts.{place_none, place_more, place_le, places_rise, code_length, code_split, width_le, width_some}
use Rattle.rv32_items.proofs.Addresses.{address_first}
use Rattle.rv32_items.proofs.Stands.{stands}
use Rattle.rv32_layout.proofs.Steps.{Has, HasAll, front, back, all_there, words_length, jalr}
use Rattle.rv32_layout.proofs.Reach.{address}
use Rattle.rv32_layout.proofs.Does.{branch_far, jump_far, branch_far_keeps, jump_far_keeps, Goes, closes, branch_taken, branch_stays, jump_goes, Behind, plain_goes_behind, plain_links_nothing, return_is}

-- what the way of an item leaves of the registers
abbrev far_of : List Way → List Item → ℕ → Option Item → (ℕ → ℕ) → ℕ → ℕ
far_of ways items n None regs = regs
far_of ways items n (Some (Label l)) regs = regs
far_of ways items n (Some (Plain i)) regs = regs
far_of ways items n (Some (Branch cond left right l)) regs =
    let i = Branch cond left right l in branch_far (way_at ways n) (place ways items n)
    (place ways items (goal items i)) regs
far_of ways items n (Some (Jump link l)) regs =
    let i = Jump link l in jump_far (way_at ways n) (place ways items n)
    (place ways items (goal items i)) link regs

abbrev segment : List ℕ → Stretch
segment words = record { first = 65536; write = false; exec = true; bytes = words_bytes words }

abbrev pub layout : List Way → List Item → (words : List ℕ) → Layout
layout ways items words = record {
  address = λ n. address (place ways items n);
  far = λ n regs. far_of ways items n (slice_get items n) regs;
  code = segment words;
}

encode_length : (is : List Instr) (ws : List ℕ) → Encode is ws → length ws ≡ length is
encode_length [] [] h = refl
encode_length [] (w ∷ ws) h = absurd h
encode_length (i ∷ is) [] h = absurd h
encode_length (i ∷ is) (w ∷ ws) h = let e = encode_length is ws h.1.1 in omega arith

far_keeps : (ways : List Way) (items : List Item) (n r : ℕ) (o : Option Item) (regs : ℕ → ℕ) → r ≢ 0
    → r ≢ 7 → far_of ways items n o regs r ≡ regs r
far_keeps ways items n r None regs n0 n7 = refl
far_keeps ways items n r (Some (Label l)) regs n0 n7 = refl
far_keeps ways items n r (Some (Plain i)) regs n0 n7 = refl
far_keeps ways items n r (Some (Branch cond left right l)) regs n0 n7
    = branch_far_keeps _ _ _ r regs n0 n7
far_keeps ways items n r (Some (Jump link l)) regs n0 n7 = jump_far_keeps _ _ _ link r regs n0 n7

module _ (ways : List Way) (items : List Item) (words : List ℕ) (few : size_of items ≤ 268435456)
    (encoded : Encode (code ways items (length items)) words) where
  abbrev lay : Layout
  lay = layout ways items words

  abbrev seg : Stretch
  seg = segment words

  word_le : (n : ℕ) → place ways items n ≤ 268435456
  word_le n = let p = place_le ways items n in omega arith

  words_are : length words ≡ place ways items (length items)
  words_are = encode_length (code ways items (length items)) words encoded ∙ code_length ways items
      (length items)

  end_is : end_of (segment words) ≡ address (place ways items (length items))
  end_is = let l = words_length words in let e = words_are in omega arith

  width_here : (n : ℕ) (o : Option Item) → slice_get items n ≡ o
      → place ways items (suc n) ≡ place ways items n + width_in (way_at ways n) o
  width_here n o e = place_more ways items n ∙ ap
      (λ o. place ways items n + width_in (way_at ways n) o) e

  sizes : (n : ℕ) (i : Item) → slice_get items n ≡ Some i
      → place ways items (suc n) ≤ place ways items n + size i
  sizes n i e = let w = width_here n (Some i) e in let l = width_le (way_at ways n) i in omega arith

  rise : (n : ℕ) (o : Option Item) → slice_get items n ≡ o → is_instruction o ≡ true
      → place ways items n + 1 ≤ place ways items (suc n)
  rise n None e h = cc
  rise n (Some i) e h = let w = width_here n (Some i) e in let l = width_some (way_at ways n) i h
      in omega arith

  lays_rise : AddressesRise items lay
  lays_rise = record {
    first = ap address (place_none ways items);
    fixed = refl;
    runs = refl;
    fours = λ n. omega arith;
    labels = λ n l e. let w = width_here n (Some (Label l)) e in omega arith;
    rises = λ n h. let r = rise n (slice_get items n) refl h in omega arith;
    sizes = λ n i e. let r = sizes n i e in omega arith;
    last = sym end_is;
    below = let w = word_le (length items) in let e = end_is in omega arith;
    far_keeps = λ n r regs n0 n7. far_keeps ways items n r (slice_get items n) regs n0 n7;
  }

  whole : HasAll seg 65536 (code ways items (length items))
  whole =
      let w = word_le (length items) in
      let e = end_is in
      all_there seg [] 65536 (code ways items (length items)) words refl refl (omega arith)
      (omega arith) (omega arith) encoded

  stand_here : (n : ℕ) (i : Item) → slice_get items n ≡ Some i
      → HasAll seg (address (place ways items n)) (code_at ways items n (Some i))
  stand_here n i e =
      let r = code_split ways items n (length items) (slice_get_within items n i e) in
      let here = code_at ways items n (slice_get items n) in
      let behind = back seg 65536 (code ways items n) (here ++ r.0)
      (subst (λ is. HasAll seg 65536 is) r.1 whole) in
      let there = front seg (65536 + 4 * length (code ways items n)) here r.0 behind in
      let moved = subst (λ k. HasAll seg (65536 + 4 * k) here) (code_length ways items n) there in
      subst (λ o. HasAll seg (address (place ways items n)) (code_at ways items n o)) e moved

  -- the machine does so much of a turn in so many steps
  abbrev Done : (most n : ℕ) → Item → State → Turn → Type 0
  Done most n i s t = (k : ℕ) × ((k ≤ most) × Does lay items n i k s t)

  module _ (regs : ℕ → ℕ) (rest : List Stretch) where
    abbrev point : ℕ → Point
    point n = record { regs = regs; item = n; memory = seg ∷ rest }

    abbrev before : ℕ → State
    before n = at regs (address (place ways items n)) (seg ∷ rest)

    does_label : (n l : ℕ) → slice_get items n ≡ Some (Label l)
        → Done 0 n (Label l) (before n) (turn_of lay items (point n) (Some (Label l)))
    does_label n l e =
        let w = width_here n (Some (Label l)) e in
        let same : address (place ways items n) ≡ address (place ways items (suc n)) = omega arith
        in
        (0, (omega arith, (refl, ap (λ a. at regs a (seg ∷ rest)) same)))

    -- a plain instruction closes its item
    plain_closes : (n : ℕ) (i : Instr) → IsPlain (Plain i)
        → Has seg (address (place ways items n)) i → Closes (Plain i)
        (address (place ways items (suc n))) (before n)
    plain_closes n i plain has =
        closes (Plain i) i (address (place ways items (suc n))) (before n) (has.reads regs rest)
        refl (plain_links_nothing i plain) (λ jump. cc)

    does_outcome : (n : ℕ) (i : Instr) → Closes (Plain i) (address (place ways items (suc n)))
        (before n) → (o : Outcome) → step (before n) ≡ o
        → Behind (plus (address (place ways items n)) 4) o
        → place ways items (suc n) ≡ place ways items n + 1
        → Done 1 n (Plain i) (before n) (behind_plain lay items (point n) o)
    does_outcome n i closed (Next' t) e b w =
        let word = word_le n in
        let next : plus (address (place ways items n)) 4 ≡ address (place ways items (suc n))
        = omega arith in (
          1,
          (
            omega arith,
            (omega arith, (e ∙ ap (λ a. Next' (at t.regs a t.memory)) (b ∙ next), closed)),
          ),
        )
    does_outcome n i closed (Written' a len bytes t) e b w =
        let word = word_le n in
        let next : plus (address (place ways items n)) 4 ≡ address (place ways items (suc n))
        = omega arith in (
          1,
          (
            omega arith,
            (refl, e ∙ ap (λ q. Written' a len bytes (at t.regs q t.memory)) (b ∙ next)),
          ),
        )
    does_outcome n i closed (Asked' a) e b w = (1, (omega arith, (refl, e)))
    does_outcome n i closed (Ended' c) e b w = (1, (omega arith, (refl, e)))
    does_outcome n i closed (Trapped' kind) e b w = (0, (omega arith, tt))

    does_return : (n : ℕ) (i : Instr) → is_return i ≡ true
        → Has seg (address (place ways items n)) i → Closes (Plain i)
        (address (place ways items (suc n))) (before n)
        → place ways items (suc n) ≡ place ways items n + 1 → (o : Option ℕ)
        → address_from 0 items lay (regs 1) ≡ o → Done 1 n (Plain i) (before n)
        (to_item lay items o (set_reg regs 0 (address (place ways items (suc n)))) (point n))
    does_return n i is has closed w None e = (0, (omega arith, tt))
    does_return n i is has closed w (Some t) e =
        let a = (address_first 0 items lay (regs 1) t e).0 in
        let word = word_le t in
        let four : address (place ways items t) % 4 ≡ 0 = omega arith in
        let there : plus (address (place ways items t)) 0 / 2 * 2 ≡ address (place ways items t)
        = omega arith in
        let next : address (place ways items n) + 4 ≡ address (place ways items (suc n))
        = omega arith in
        let h = subst (λ j. Has seg (address (place ways items n)) j) (return_is i is) has in
        let goes = jalr seg (address (place ways items n)) regs rest 0 1
        (address (place ways items t)) (pos 0) h.holds
        (ap (λ v. plus v 0 / 2 * 2) (sym a) ∙ there) four in (
          1,
          (
            omega arith,
            (
              omega arith,
              (
                goes ∙ ap
                    (λ v. Next' (at (set_reg regs 0 v) (address (place ways items t)) (seg ∷ rest))) next,
                closed,
              ),
            ),
          ),
        )

    does_plain : (n : ℕ) (i : Instr) → IsPlain (Plain i) → slice_get items n ≡ Some (Plain i)
        → (b : Bool) → is_return i ≡ b → Done 1 n (Plain i) (before n)
        (if b then to_item lay items (address_from 0 items lay (regs 1))
        (set_reg regs 0 (address (place ways items (suc n)))) (point n)
        else behind_plain lay items (point n) (act (before n) i))
    does_plain n i plain e true is =
        let has = stand_here n (Plain i) e in
        does_return n i is has.0 (plain_closes n i plain has.0) (width_here n (Some (Plain i)) e)
        (address_from 0 items lay (regs 1)) refl
    does_plain n i plain e false is =
        let has = stand_here n (Plain i) e in
        does_outcome n i (plain_closes n i plain has.0) (act (before n) i)
        (has.0.holds.steps regs rest) (plain_goes_behind (before n) i plain is)
        (width_here n (Some (Plain i)) e)

    -- to the label of an item, whose way leaves these registers
    to_label : (most n l : ℕ) (i : Item) (far far' : ℕ → ℕ)
        → label_from 0 items l ≡ Some (goal items i) → far' ≡ far
        → Goes i most (address (place ways items (suc n))) (before n)
        (at far (address (place ways items (goal items i))) (seg ∷ rest))
        → Done most n i (before n) (to_item lay items (label_from 0 items l) far' (point n))
    to_label most n l i far far' there same g =
        let climbs = subst
        (λ f. StepsAtRisingPcs i g.steps (address (place ways items (suc n))) (before n)
        (at f (address (place ways items (goal items i))) (seg ∷ rest))) (sym same) g.climbs in (
          g.steps,
          (
            g.few,
            subst
                (λ o. Does lay items n i g.steps (before n) (to_item lay items o far' (point n)))
                (sym there) climbs,
          ),
        )

    does_branch : (n : ℕ) (cond : Cond) (left right l : ℕ)
        → slice_get items n ≡ Some (Branch cond left right l)
        → label_from 0 items l ≡ Some (goal items (Branch cond left right l)) → (b : Bool)
        → is_taken (kind_of cond) (register_value regs left) (register_value regs right) ≡ b
        → Done (if b then 3 else 1) n (Branch cond left right l) (before n)
        (if b then to_item lay items (label_from 0 items l) (lay.far n regs) (point n)
        else Next (record { regs = regs; item = suc n; memory = seg ∷ rest }))
    does_branch n cond left right l e there true test =
        let i = Branch cond left right l in
        let w = way_at ways n in
        let goes = branch_taken seg rest w (place ways items n) (place ways items (goal items i))
        (place ways items (suc n)) cond left right l regs (word_le n) (word_le (goal items i))
        (width_here n (Some i) e) (stand_here n i e) test in
        to_label 3 n l i (branch_far w (place ways items n) (place ways items (goal items i)) regs)
        (lay.far n regs) there (ap (λ o. far_of ways items n o regs) e) goes
    does_branch n cond left right l e there false test =
        let i = Branch cond left right l in
        let goes = branch_stays seg rest (way_at ways n) (place ways items n)
        (place ways items (goal items i)) (place ways items (suc n)) cond left right l regs
        (word_le n) (width_here n (Some i) e) (stand_here n i e) test in
        (goes.steps, (goes.few, goes.climbs))

    does_jump : (n link l : ℕ) → slice_get items n ≡ Some (Jump link l)
        → label_from 0 items l ≡ Some (goal items (Jump link l))
        → Done 3 n (Jump link l) (before n)
        (to_item lay items (label_from 0 items l)
        (lay.far n (set_reg regs link (address (place ways items (suc n))))) (point n))
    does_jump n link l e there =
        let i = Jump link l in
        let w = way_at ways n in
        let linked = set_reg regs link (address (place ways items (suc n))) in
        let goes = jump_goes seg rest w (place ways items n) (place ways items (goal items i))
        (place ways items (suc n)) link l regs (word_le n) (word_le (goal items i))
        (width_here n (Some i) e) (stand_here n i e) in
        to_label 3 n l i
        (jump_far w (place ways items n) (place ways items (goal items i)) link linked)
        (lay.far n linked) there (ap (λ o. far_of ways items n o linked) e) goes

    has_goal : (l : ℕ) → times l items ≡ 1 → label_from 0 items l ≡ Some
        (unwrap_or (label_from 0 items l) 0)
    has_goal l once = let s = stands l items once in s.1.0 ∙ ap (λ o. Some (unwrap_or o 0))
        (sym s.1.0)

    does_item : LabelsStand items → AllPlain items → (n : ℕ) (i : Item) → slice_get items n ≡ Some i
        → Done (steps (before n) i) n i (before n) (turn_of lay items (point n) (Some i))
    does_item labels plain n (Label l) e = does_label n l e
    does_item labels plain n (Plain i) e = does_plain n i (plain n (Plain i) e) e (is_return i) refl
    does_item labels plain n (Branch cond left right l) e =
        does_branch n cond left right l e
        (has_goal l (labels n l (Branch cond left right l) e refl))
        (is_taken (kind_of cond) (register_value regs left) (register_value regs right)) refl
    does_item labels plain n (Jump link l) e = does_jump n link l e
        (has_goal l (labels n l (Jump link l) e refl))

    does_turn : LabelsStand items → AllPlain items → (n : ℕ) (i : Item) → slice_get items n ≡ Some i
        → Done (steps (before n) i) n i (before n) (turn lay items (point n))
    unfolding turn
    does_turn labels plain n i e =
        subst (λ o. Done (steps (before n) i) n i (before n) (turn_of lay items (point n) o))
        (sym e) (does_item labels plain n i e)

  some_word : (n : ℕ) → is_instruction (slice_get items n) ≡ true → 0 < length words
  some_word n h = at (slice_get items n) refl h
    where
      at : (o : Option Item) → slice_get items n ≡ o → is_instruction o ≡ true → 0 < length words
      at None e h = cc
      at (Some i) e h =
          let r = rise n (Some i) e h in
          let lt = slice_get_within items n i e in
          let up = places_rise ways items (suc n) (length items) (omega arith) in
          let w = words_are in
          omega arith

  placed : LabelsStand items → AllPlain items → Placed items words
  placed labels plain = record {
    lay = lay;
    at_first = refl;
    code = refl;
    rises = lays_rise;
    few = let w = words_are in let p = place_le ways items (length items) in omega arith;
    some = some_word;
    does = λ p i rest m e.
        let there = does_turn p.regs rest labels plain p.item i e in
        subst (λ mem. (k : ℕ) ×
        ((k ≤ steps (at p.regs (address (place ways items p.item)) mem) i)
        × Does lay items p.item i k (at p.regs (address (place ways items p.item)) mem)
        (turn lay items (record { regs = p.regs; item = p.item; memory = mem })))) (sym m)
        there;
  }

  pub laid : LabelsStand items → AllPlain items → (placed : Placed items words) × (placed.lay ≡ lay)
  unfolding placed
  laid labels plain = (placed labels plain, refl)
