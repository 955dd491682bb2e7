-- How soon the machine has done so many items, to the word.
--
-- The words of an item do what the item does, be it a short branch, a branch over a jump, or AUIPC
-- and JALR. Where items go forward, a count of the code that is left falls with each step: the
-- code from the point to the end of its procedure, for each open call the code behind it, and what
-- stands behind the procedures. A call sets aside what is left after it, and its return gives that
-- back; only the entry of a procedure adds its code again. So steps are bounded by the words of
-- the procedures that were entered.
use Rattle.std.proofs.Common.{◌≡◌, ℕ, zero, suc, ◌+◌, ◌-◌, ◌*◌, ◌%◌, ◌<◌, ◌≤◌, ◌⊎◌, min, Bool, true, false, nat_eq, nat_lt, List, [], ◌∷◌, ◌++◌, map, length, drop, Option, Some, None, slice_get, inl, inr, refl, sym, ap, ◌∙◌, subst, append_assoc, arith}
use Rattle.std.specs.Prelude.{if◌then◌else◌}
use Rattle.std.proofs.lemmas.Bool.{true≢false, cases_lt, eqb-true}
use Rattle.std.proofs.lemmas.Bool.Decides.{nat_tests}
use Rattle.std.proofs.lemmas.Option.{slice_get_within}
use Rattle.seq.specs.Lists.{sum_of}
use Rattle.rv32_machine.specs.declared.machine.TrapKind.TheVariants.{MisalignedJump}
use Rattle.rv32_machine.specs.declared.memory.Right.TheVariants.{Execute}
use Rattle.rv32_machine.specs.Memory.{end_of, access}
use Rattle.rv32_machine.specs.Arithmetic.{is_taken}
use Rattle.rv32_machine.specs.Steps.{State, Outcome, Next as Next', Written as Written', Asked as Asked', Ended as Ended', Trapped as Trapped', step, fetch_and_execute, act, given, reg, set_reg}
use Rattle.rv32_machine.specs.Runs.{Run, Going as Going', Exited as Exited', stands as stands', after as after', onward as onward', run}
use Rattle.rv32_machine.proofs.Composed.{run_none, run_more}
use Rattle.rv32_steps.specs.Trace.{is_one_of, procedures_at, procedure_from}
use Rattle.rv32_items.specs.declared.Item.{Item}
use Rattle.rv32_items.specs.declared.Item.TheVariants.{Label, Plain, Branch, Jump}
use Rattle.rv32_items.specs.Course.{Layout, Point, Course, Turn, Next, Written, Asked, Ended, Trapped, turn, turn_of, to_item, behind, behind_plain, state_at, kind_of, label_of, address_from, Exited, stands, after, onward, course}
use Rattle.rv32_items.specs.Placed.{is_instruction, size, times, steps, StepsAtRisingPcs, Does, Placed}
use Rattle.rv32_items.specs.Told.{is_call, returns, home_by, ReturnsHome}
use Rattle.rv32_items.specs.Flows.{begins_procedure, IsForwardTransfer, IsStopItem, HasStructuredFlow}
use Rattle.rv32_items.specs.Laws.{HasCode}
use Rattle.rv32_items.proofs.Addresses.{addresses_rise}
use Rattle.rv32_items.proofs.CodeAfterTurn.{turn_is, GoodTurn}
use Rattle.rv32_items.proofs.Moments.{Same, course_none, climbs_run}
use Rattle.rv32_items.proofs.Enters.{course_is}
use Rattle.rv32_items.proofs.Forward.{home_step, begin_item, Way, WayTurn, turn_way}
use Rattle.rv32_items.proofs.Reached.{none_behind, turns}

-- ---- an item's steps and its words

-- an instruction stands at a multiple of four
pub aligned : (s t : State) → step s ≡ Next' t → s.pc % 4 ≡ 0
unfolding step
aligned s t h = go (nat_eq (s.pc % 4) 0) refl h
  where
    go : (b : Bool) → nat_eq (s.pc % 4) 0 ≡ b
        → (if b then fetch_and_execute s (access Execute s.memory s.pc 4)
        else Trapped' MisalignedJump) ≡ Next' t
        → s.pc % 4 ≡ 0
    go true e h = eqb-true (s.pc % 4) 0 e
    go false e h = cc

climbs_words : (i : Item) (end : ℕ) (t : State) → end % 4 ≡ 0 → (k : ℕ) (s : State)
    → StepsAtRisingPcs i (suc k) end s t → (s.pc % 4 ≡ 0) × (4 * suc k + s.pc ≤ end)
climbs_words i end t four zero s h = let a = aligned s t h.1.0 in (a, omega (arith, h.0, a, four))
climbs_words i end t four (suc k) s h =
    let a = aligned s h.0 h.1.1.0 in
    let r = climbs_words i end t four k h.0 h.1.1.1.1 in
    (a, omega (arith, h.1.0, a, r.0, r.1))

-- an item takes no more steps than it has words
pub steps_size : (s : State) (i : Item) → steps s i ≤ size i
steps_size s (Label l) = omega arith
steps_size s (Plain i) = omega arith
steps_size s (Jump k l) = omega arith
steps_size s (Branch cond left right l) = go (is_taken (kind_of cond) (reg s left) (reg s right))
  where
    go : (b : Bool) → (if b then 3 else 1) ≤ 3
    go true = omega arith
    go false = omega arith

-- a call and a return are instructions, and no stops
call_is : (i : Item) → is_call (Some i) ≡ true → is_instruction (Some i) ≡ true
call_is (Label l) h = absurd (true≢false (sym h))
call_is (Plain i) h = refl
call_is (Branch c a b l) h = refl
call_is (Jump k l) h = refl

no_stop : (i : Item) → is_call (Some i) ≡ true → IsStopItem i → ⊥
no_stop (Label l) h is = true≢false (sym h)
no_stop (Plain i) h is = true≢false (sym h)
no_stop (Branch c a b l) h is = is
no_stop (Jump k l) h is = is

return_is : (i : Item) → returns (Some i) ≡ true → is_instruction (Some i) ≡ true
return_is (Label l) h = absurd (true≢false (sym h))
return_is (Plain i) h = refl
return_is (Branch c a b l) h = refl
return_is (Jump k l) h = refl

no_stop_return : (i : Item) → returns (Some i) ≡ true → IsStopItem i → ⊥
no_stop_return (Label l) h is = true≢false (sym h)
no_stop_return (Plain i) h is = true≢false (sym h ∙ is)
no_stop_return (Branch c a b l) h is = is
no_stop_return (Jump k l) h is = is

not_both : (i : Item) → returns (Some i) ≡ true → is_call (Some i) ≡ true → ⊥
not_both (Label l) r c = true≢false (sym r)
not_both (Plain i) r c = true≢false (sym c)
not_both (Branch x y z l) r c = true≢false (sym r)
not_both (Jump k l) r c = true≢false (sym r)

-- ---- procedures

pub sums : (weight : ℕ → ℕ) (xs ys : List ℕ)
    → sum_of (map weight (xs ++ ys)) ≡ sum_of (map weight xs) + sum_of (map weight ys)
sums weight [] ys = omega arith
sums weight (x ∷ xs) ys = omega (arith, sums weight xs ys)

joined : (begins xs ys : List ℕ) → procedures_at begins (xs ++ ys) ≡ procedures_at begins xs
    ++ procedures_at begins ys
joined begins [] ys = refl
joined begins (x ∷ xs) ys = ap (λ r. procedure_from 0 begins x ++ r) (joined begins xs ys)
    ∙ sym (append_assoc (procedure_from 0 begins x) (procedures_at begins xs)
    (procedures_at begins ys))

module _ (items : List Item) (words : List ℕ) (placed : Placed items words) (begins : List ℕ)
    (stand : (b : ℕ) → is_one_of begins b ≡ true → times b items ≡ 1)
    (flows : HasStructuredFlow begins items) where
  abbrev pub lay : Layout
  lay = placed.lay

  abbrev pub stops : ℕ
  stops = flows.stops

  abbrev pub begins_at : ℕ → Bool
  begins_at n = begins_procedure begins (slice_get items n)

  pub stops_within : stops < length items
  stops_within = slice_get_within items stops _ flows.first_stop.1

  pub rise : (m n : ℕ) → m ≤ n → n ≤ length items → lay.address m ≤ lay.address n
  rise = addresses_rise items lay placed.rises

  -- ---- where the code of a procedure ends

  -- the first of the next d items at which a procedure begins, and the item behind them where there
  -- is none
  abbrev pub first_end : ℕ → ℕ → ℕ
  first_end zero n = n
  first_end (suc d) n = if begins_at n then n else first_end d (suc n)

  abbrev pub end_at : ℕ → ℕ
  end_at n = first_end (stops - n) n

  end_bounds : (d n : ℕ) → (n ≤ first_end d n) × (first_end d n ≤ n + d)
  end_bounds zero n = (omega arith, omega arith)
  end_bounds (suc d) n = go (begins_at n) (end_bounds d (suc n))
    where
      go : (b : Bool) → (suc n ≤ first_end d (suc n)) × (first_end d (suc n) ≤ suc n + d)
          → (n ≤ (if b then n else first_end d (suc n)))
          × ((if b then n else first_end d (suc n)) ≤ n + suc d)
      go true r = (omega arith, omega arith)
      go false r = (omega (arith, r.0), omega (arith, r.1))

  end_is : (d n : ℕ) → (begins_at (first_end d n) ≡ true) ⊎ (first_end d n ≡ n + d)
  end_is zero n = inr (omega arith)
  end_is (suc d) n = go (begins_at n) refl (end_is d (suc n))
    where
      go : (b : Bool) → begins_at n ≡ b → (begins_at (first_end d (suc n)) ≡ true)
          ⊎ (first_end d (suc n) ≡ suc n + d)
          → (begins_at (if b then n else first_end d (suc n)) ≡ true)
          ⊎ ((if b then n else first_end d (suc n)) ≡ n + suc d)
      go true e r = inl e
      go false e (inl r) = inl r
      go false e (inr r) = inr (omega (arith, r))

  end_least : (d n q : ℕ) → n ≤ q → begins_at q ≡ true → first_end d n ≤ q ⊎ (n + d < q)
  end_least zero n q le b = elim (cases_lt n q) [
    | inl lt ↦ inr (omega arith)
    | inr ge ↦ inl (omega arith)
  ]
  end_least (suc d) n q le b = go (begins_at n) refl (λ l. end_least d (suc n) q l b)
    where
      go : (t : Bool) → begins_at n ≡ t → (suc n ≤ q → first_end d (suc n) ≤ q ⊎ (suc n + d < q))
          → (if t then n else first_end d (suc n)) ≤ q ⊎ (n + suc d < q)
      go true e rest = inl le
      go false e rest = elim (cases_lt n q) [
        | inl lt ↦ shifted (rest (omega arith))
        | inr ge ↦ let same : n ≡ q = omega arith in absurd
            (true≢false (sym b ∙ ap begins_at (sym same) ∙ e))
      ]
        where
          shifted : first_end d (suc n) ≤ q ⊎ (suc n + d < q) → first_end d (suc n) ≤ q
              ⊎ (n + suc d < q)
          shifted (inl h) = inl h
          shifted (inr h) = inr (omega (arith, h))

  -- the end of item n is n or behind it, and no later than the stops
  end_from : (n : ℕ) → n ≤ end_at n
  end_from n = (end_bounds (stops - n) n).0

  pub end_before : (n : ℕ) → n ≤ stops → end_at n ≤ stops
  end_before n le = omega (arith, (end_bounds (stops - n) n).1)

  -- no later than where a procedure begins
  pub end_by : (n q : ℕ) → n ≤ q → begins_at q ≡ true → end_at n ≤ q
  end_by n q le b = go (end_least (stops - n) n q le b)
    where
      go : end_at n ≤ q ⊎ (n + (stops - n) < q) → end_at n ≤ q
      go (inl h) = h
      go (inr h) = let lt = flows.procedures_before q b in absurd (omega (arith, h, lt))

  -- and behind all items of which none begins one
  end_past : (n t : ℕ) → n ≤ t → t < stops → ((q : ℕ) → n ≤ q → q ≤ t → begins_at q ≡ false)
      → t < end_at n
  end_past n t le lt none = elim (cases_lt t (end_at n)) [
    | inl past ↦ past
    | inr within ↦ absurd (go (end_is (stops - n) n) within)
  ]
    where
      go : (begins_at (end_at n) ≡ true) ⊎ (end_at n ≡ n + (stops - n)) → end_at n ≤ t → ⊥
      go (inl b) within = true≢false (sym b ∙ none (end_at n) (end_from n) within)
      go (inr e) within = omega (arith, e, within)

  -- so what ends behind an item ends no later
  end_kept : (n t : ℕ) → n ≤ t → t ≤ stops → t ≤ end_at n → end_at t ≤ end_at n
  end_kept n t le before within = go (end_is (stops - n) n)
    where
      go : (begins_at (end_at n) ≡ true) ⊎ (end_at n ≡ n + (stops - n)) → end_at t ≤ end_at n
      go (inl b) = end_by t (end_at n) within b
      go (inr e) = omega (arith, e, end_before t before)

  -- ---- what is left to do, in bytes

  -- from an item on to the end of its procedure
  abbrev pub left_in : ℕ → ℕ
  left_in n = lay.address (end_at n) - lay.address n

  -- behind the procedures
  abbrev pub tail : ℕ
  tail = end_of lay.code - lay.address stops

  abbrev pub left_by : Bool → ℕ → ℕ
  left_by b n = if b then left_in n + tail else min tail (end_of lay.code - lay.address n)

  abbrev pub left_at : ℕ → ℕ
  left_at n = left_by (nat_lt n stops) n

  -- behind the open calls
  abbrev pub left_behind : (calls : List ℕ) → ℕ
  left_behind [] = 0
  left_behind (c ∷ calls) = left_in c + left_behind calls

  left_before : (n : ℕ) → n < stops → left_at n ≡ left_in n + tail
  left_before n lt = let h : nat_lt n stops ≡ true = grind (arith, nat_tests)
      in ap (λ b. left_by b n) h

  left_past : (n : ℕ) → stops ≤ n → left_at n ≡ min tail (end_of lay.code - lay.address n)
  left_past n le = let h : nat_lt n stops ≡ false = grind (arith, nat_tests)
      in ap (λ b. left_by b n) h

  pub left_most : (n : ℕ) → left_at n ≤ left_in n + tail
  left_most n = elim (cases_lt n stops) [
    | inl lt ↦ omega (arith, left_before n lt)
    | inr ge ↦ omega (arith, left_past n ge)
  ]

  -- nothing of a procedure is left where one begins
  none_left : (n : ℕ) → begins_at n ≡ true → left_at n ≤ tail
  none_left n b =
      let at : end_at n ≡ n = omega (arith, end_from n, end_by n n (omega arith) b) in
      let none : left_in n ≡ 0 = ap (λ q. lay.address q - lay.address n) at ∙ (omega arith) in
      omega (arith, left_most n, none)

  -- ---- an item that goes on

  -- so many steps of item n
  abbrev Within : (n k : ℕ) → Type 0
  Within n k = 4 * k + lay.address n ≤ lay.address (suc n)

  module _ (n k : ℕ) (few : Within n k) where
    module _ (lt : n < stops) (none : begins_at n ≡ false) where
      behind_it : suc n ≤ end_at n
      behind_it = end_past n n (omega arith) lt
          (λ q lo hi. let same : n ≡ q = omega arith in ap begins_at (sym same) ∙ none)

      to_end : lay.address (suc n) ≤ lay.address (end_at n)
      to_end = rise (suc n) (end_at n) behind_it
          (omega (arith, end_before n (omega arith), stops_within))

      -- its own words, and what is left in its procedure
      rest_left : (4 * k + left_in (suc n)) + tail ≤ left_at n
      rest_left =
          let less = rise (end_at (suc n)) (end_at n)
          (end_kept n (suc n) (omega arith) lt behind_it)
          (omega (arith, end_before n (omega arith), stops_within)) in
          omega (arith, left_before n lt, few, to_end, less)

      -- on to an item behind it
      on_left : (t : ℕ) → suc n ≤ t → t < stops → t ≤ end_at n → 4 * k + left_at t ≤ left_at n
      on_left t le before within =
          let top = end_before n (omega arith) in
          let less = rise (end_at t) (end_at n) (end_kept n t (omega arith) (omega arith) within)
          (omega (arith, top, stops_within)) in
          let up = rise (suc n) t le (omega (arith, stops_within, before)) in
          omega (arith, left_before n lt, left_before t before, few, to_end, less, up)

      -- on to where nothing of a procedure is left
      out_left : (t : ℕ) → left_at t ≤ tail → 4 * k + left_at t ≤ left_at n
      out_left t out = omega (arith, rest_left, out)

      stop_left : (t : ℕ) → stops ≤ t → 4 * k + left_at t ≤ left_at n
      stop_left t le = out_left t (omega (arith, left_past t le))

      next_left : 4 * k + left_at (suc n) ≤ left_at n
      next_left = elim (cases_lt (suc n) stops) [
        | inl before ↦ on_left (suc n) (omega arith) before behind_it
        | inr past ↦ stop_left (suc n) past
      ]

      way_left : (i : Item) (t : ℕ) → Way items words placed begins stand flows i n t
          → 4 * k + left_at t ≤ left_at n
      way_left i t w = by_way w.0
        where
          by_way : (t ≡ suc n) ⊎ ((t ≤ length items) × IsForwardTransfer begins items stops n t)
              → 4 * k + left_at t ≤ left_at n
          by_way (inl e) = subst (λ t. 4 * k + left_at t ≤ left_at n) (sym e) next_left
          by_way (inr (top, inl on)) = elim (cases_lt t stops) [
            | inl before ↦ on_left t (omega (arith, on.0)) before
                (let past = end_past n t (omega (arith, on.0)) before
                (λ q lo hi. here q lo (λ less. on.1 q less hi))
                in omega arith)
            | inr past ↦ stop_left t past
          ]
            where
              here : (q : ℕ) → n ≤ q → (suc n ≤ q → begins_at q ≡ false) → begins_at q ≡ false
              here q lo more = elim (cases_lt n q) [
                | inl less ↦ more (omega arith)
                | inr same ↦ let e : n ≡ q = omega arith in ap begins_at (sym e) ∙ none
              ]
          by_way (inr (top, inr (inl begin))) = out_left t (none_left t begin)
          by_way (inr (top, inr (inr stop))) = stop_left t stop.1

    -- a stop goes to the item behind it
    past_left : stops ≤ n → n < length items → 4 * k + left_at (suc n) ≤ left_at n
    past_left le top =
        let from = rise stops n le (omega (arith, top)) in
        let end = rise (suc n) (length items) (omega (arith, top)) (omega arith) in
        omega (
          arith,
          left_past n le,
          left_past (suc n) (omega arith),
          few,
          from,
          end,
          placed.rises.last,
        )

  -- ---- one item, and then the rest

  abbrev pub Home : (input : List ℕ) → Point → (calls : List ℕ) → Type 0
  Home input p calls = (n : ℕ) → ReturnsHome lay items n input p calls

  -- the words of a procedure are those from its label on to its end
  module _ (weight : ℕ → ℕ)
      (weighs : (n l : ℕ) → slice_get items n ≡ Some (Label l) → is_one_of begins l ≡ true
      → left_in (suc n) ≤ 4 * sum_of (map weight (procedure_from 0 begins l))) where
    -- the words of the procedures that are passed
    abbrev pub passed_words : (labels : List ℕ) → ℕ
    passed_words labels = sum_of (map weight (procedures_at begins labels))

    passed_more : (o : Option Item) (c : Course)
        → passed_words (after [] (label_of o) c).passed ≡ passed_words (label_of o) + passed_words
        c.passed
    passed_more o c =
        ap (λ ps. sum_of (map weight ps)) (joined begins (label_of o) c.passed)
        ∙ sums weight (procedures_at begins (label_of o)) (procedures_at begins c.passed)

    pub record PacedAt (n : ℕ) (input : List ℕ) (p : Point) (calls : List ℕ) : Type 0 where
      pub count : ℕ
      pub few : 4 * count ≤ (left_at p.item + left_behind calls) + 4 * passed_words
          (course lay items n input p).passed
      pub same : Same (run count input (state_at lay items p)) (course lay items n input p)

    -- ---- what is left behind an item

    -- the calls that are open behind an item, from which each return goes home as well
    pub record Behind (input : List ℕ) (from k : ℕ) (calls : List ℕ) (q : Point) : Type 0 where
      pub open_calls : List ℕ
      pub home : Home input q open_calls
      pub less : (4 * k + left_at q.item) + left_behind open_calls ≤
          (left_at from + left_behind calls) + 4 * passed_words (label_of (slice_get items from))

    -- a plain item that is no return goes to the item behind it
    plain_next : (p q : Point) (outcome : Outcome) → behind_plain lay items p outcome ≡ Next q
        → q.item ≡ suc p.item
    plain_next p q (Next' s) h = let same : behind p.item s ≡ q = cc in ap (λ r. r.item) (sym same)
    plain_next p q (Written' a len bytes s) h = cc
    plain_next p q (Asked' a) h = cc
    plain_next p q (Ended' c) h = cc
    plain_next p q (Trapped' kind) h = cc

    module _ (input : List ℕ) (p : Point) (i : Item) (e : slice_get items p.item ≡ Some i) (k : ℕ)
        (few : Within p.item k) where
      within_items : p.item < length items
      within_items = slice_get_within items p.item i e

      no_begin : is_instruction (Some i) ≡ true → begins_at p.item ≡ false
      no_begin is = ap (begins_procedure begins) e ∙ go i is
        where
          go : (i : Item) → is_instruction (Some i) ≡ true
              → begins_procedure begins (Some i) ≡ false
          go (Label l) is = absurd (true≢false (sym is))
          go (Plain x) is = refl
          go (Branch c a b l) is = refl
          go (Jump j l) is = refl

      -- an item that is no stop stands before them
      before_stops : (IsStopItem i → ⊥) → p.item < stops
      before_stops other = elim (cases_lt p.item stops) [
        | inl lt ↦ lt
        | inr ge ↦ absurd (other (flows.all_stop p.item i ge e))
      ]

      -- to the item behind it
      pub item_left : 4 * k + left_at (suc p.item) ≤ left_at p.item + 4 * passed_words
          (label_of (slice_get items p.item))
      item_left = elim (cases_lt p.item stops) [
        | inr ge ↦ omega (arith, past_left p.item k few ge within_items)
        | inl lt ↦ by_begin (begins_at p.item) refl lt
      ]
        where
          by_begin : (b : Bool) → begins_at p.item ≡ b → p.item < stops
              → 4 * k + left_at (suc p.item) ≤ left_at p.item + 4 * passed_words
              (label_of (slice_get items p.item))
          by_begin false b lt = omega (arith, next_left p.item k few lt b)
          by_begin true b lt =
              let l = begin_item items words placed begins stand flows (slice_get items p.item) b in
              let w = weighs p.item l.0 l.1.0 l.1.1 in
              let stays = placed.rises.labels p.item l.0 l.1.0 in
              let due : passed_words (label_of (slice_get items p.item)) ≡ sum_of
              (map weight (procedure_from 0 begins l.0)) + 0 =
              ap (λ o. passed_words (label_of o)) l.1.0 ∙ sums weight (procedure_from 0 begins l.0)
              [] in
              omega (arith, w, stays, due, few, left_before p.item lt, left_most (suc p.item))

      module _ (q : Point)
          (way : returns (Some i) ≡ false → Way items words placed begins stand flows i p.item
          q.item)
          (next : is_instruction (Some i) ≡ false → q.item ≡ suc p.item)
          (stop_next : IsStopItem i → q.item ≡ suc p.item) where
        -- a step that goes on
        on_by : returns (Some i) ≡ false → 4 * k + left_at q.item ≤ left_at p.item + 4 *
            passed_words
            (label_of (slice_get items p.item))
        on_by r = elim (cases_lt p.item stops) [
          | inr ge ↦ subst (λ t. 4 * k + left_at t ≤ left_at p.item + 4 * passed_words
              (label_of (slice_get items p.item))) (sym (stop_next (flows.all_stop p.item i ge e)))
              item_left
          | inl lt ↦ by_instruction (is_instruction (Some i)) refl lt
        ]
          where
            by_instruction : (b : Bool) → is_instruction (Some i) ≡ b → p.item < stops
                → 4 * k + left_at q.item ≤ left_at p.item + 4 * passed_words
                (label_of (slice_get items p.item))
            by_instruction false b lt = subst
                (λ t. 4 * k + left_at t ≤ left_at p.item + 4 * passed_words
                (label_of (slice_get items p.item)))
                (sym (next b)) item_left
            by_instruction true b lt = omega
                (arith, way_left p.item k few lt (no_begin b) i q.item (way r))

        pub by_kind : (closes opens : Bool) → returns (Some i) ≡ closes → is_call (Some i) ≡ opens
            → (calls : List ℕ)
            → ((n : ℕ) → home_by lay items (λ q c. ReturnsHome lay items n input q c) p.item calls
            opens closes q)
            → Behind input p.item k calls q
        by_kind false false r c calls h =
            record { open_calls = calls; home = h; less = omega (arith, on_by r) }
        by_kind false true r c calls h =
            let before = before_stops (no_stop i c) in
            let none = no_begin (call_is i c) in
            let out = none_left q.item ((way r).1 c) in
            record {
              open_calls = suc p.item ∷ calls;
              home = h;
              less = omega
                  (arith, rest_left p.item k few before none, out);
            }
        by_kind true false r c [] h = absurd (h 0)
        by_kind true false r c (x ∷ calls) h =
            let before = before_stops (no_stop_return i r) in
            let none = no_begin (return_is i r) in
            let there = (h 0).0 in
            let at : left_at q.item ≤ left_in x + tail
            = subst (λ y. left_at q.item ≤ left_in y + tail) there
            (left_most q.item) in
            record {
              open_calls = calls;
              home = λ n. (h n).1;
              less = omega
                  (arith, rest_left p.item k few before none, at);
            }
        by_kind true true r c calls h = absurd (not_both i r c)

    abbrev course_by : (n : ℕ) (input : List ℕ) (p : Point) (o : Option Item) (t : Turn)
        → slice_get items p.item ≡ o
        → turn lay items p ≡ t → course lay items (suc n) input p ≡ after [] (label_of o)
        (onward lay items (course lay items n) input p t)
    course_by = course_is items words placed begins stand flows.instruction_behind

    -- one item more: its steps, and those of the rest
    one_more : (p : Point) (calls : List ℕ) (k m left : ℕ) (c : Course)
        → (4 * k + left) ≤ (left_at p.item + left_behind calls) + 4 * passed_words
        (label_of (slice_get items p.item))
        → 4 * m ≤ left + 4 * passed_words c.passed
        → 4 * (k + m) ≤ (left_at p.item + left_behind calls) + 4 * passed_words
        (after [] (label_of (slice_get items p.item)) c).passed
    one_more p calls k m left c here rest = omega
        (arith, here, rest, passed_more (slice_get items p.item) c)

    by_steps : (n : ℕ) (input : List ℕ) (p : Point) (calls : List ℕ) (m : ℕ) (r : Run) (c : Course)
        → 4 * m ≤ (left_at p.item + left_behind calls) + 4 * passed_words
        (after [] (label_of (slice_get items p.item)) c).passed
        → run m input (state_at lay items p) ≡ r
        → course lay items (suc n) input p ≡ after [] (label_of (slice_get items p.item)) c
        → Same r (after [] (label_of (slice_get items p.item)) c) → PacedAt (suc n) input p calls
    by_steps n input p calls m r c few er ec h = record {
      count = m;
      few = subst (λ v. 4 * m ≤ (left_at p.item + left_behind calls) + 4 * passed_words v.passed)
          (sym ec) few;
      same = subst (λ v. Same v (course lay items (suc n) input p)) (sym er)
          (subst (λ v. Same r v) (sym ec) h);
    }

    abbrev Paced : ℕ → Type 0
    Paced n = (input : List ℕ) (p : Point) (calls : List ℕ) → HasCode lay p → Home input p calls
        → PacedAt n input p calls

    pub any_way : (p : Point) (i : Item) → slice_get items p.item ≡ Some i
        → WayTurn items words placed begins stand flows i p (turn_of lay items p (Some i))
    any_way p (Label l) e = λ other. (inl refl, λ call. absurd (true≢false (sym call)))
    any_way p (Plain x) e = turn_way items words placed begins stand flows p (Plain x) e refl
    any_way p (Branch c a b l) e = turn_way items words placed begins stand flows p (Branch c a b l)
        e refl
    any_way p (Jump k l) e = turn_way items words placed begins stand flows p (Jump k l) e refl

    pub stop_way : (p q : Point) (i : Item) → turn_of lay items p (Some i) ≡ Next q → IsStopItem i
        → q.item ≡ suc p.item
    stop_way p q (Label l) t is = let same : record
        { regs = p.regs; item = suc p.item; memory = p.memory } ≡ q = cc
        in ap (λ r. r.item) (sym same)
    stop_way p q (Plain x) t is =
        plain_next p q (act (state_at lay items p) x)
        (ap (λ b. if b then to_item lay items (address_from 0 items lay (p.regs 1))
        (set_reg p.regs 0 (lay.address (suc p.item))) p else behind_plain lay items p
        (act (state_at lay items p) x)) (sym is) ∙ t)
    stop_way p q (Branch c a b l) t is = absurd is
    stop_way p q (Jump k l) t is = absurd is

    pub label_way : (p q : Point) (i : Item) → turn_of lay items p (Some i) ≡ Next q
        → is_instruction (Some i) ≡ false
        → q.item ≡ suc p.item
    label_way p q (Label l) t is = let same : record
        { regs = p.regs; item = suc p.item; memory = p.memory } ≡ q = cc
        in ap (λ r. r.item) (sym same)
    label_way p q (Plain x) t is = absurd (true≢false is)
    label_way p q (Branch c a b l) t is = absurd (true≢false is)
    label_way p q (Jump k l) t is = absurd (true≢false is)

    -- the steps of an item are no more than its words
    pub some_words : (n : ℕ) (i : Item) → slice_get items n ≡ Some i → (k : ℕ) → k ≤ size i → k ≤ 1
        → Within n k
    some_words n (Label l) e k most one = omega (arith, most, placed.rises.labels n l e)
    some_words n (Plain x) e k most one = omega
        (arith, one, placed.rises.rises n (ap is_instruction e))
    some_words n (Branch c a b l) e k most one = omega
        (arith, one, placed.rises.rises n (ap is_instruction e))
    some_words n (Jump j l) e k most one = omega
        (arith, one, placed.rises.rises n (ap is_instruction e))

    pub next_words : (p q : Point) (i : Item) → slice_get items p.item ≡ Some i → (k : ℕ)
        → k ≤ size i
        → StepsAtRisingPcs i k (lay.address (suc p.item)) (state_at lay items p)
        (state_at lay items q)
        → Within p.item k
    next_words p q i e zero most d = some_words p.item i e 0 most (omega arith)
    next_words p q i e (suc k) most d =
        (climbs_words i (lay.address (suc p.item)) (state_at lay items q)
        (placed.rises.fours (suc p.item)) k (state_at lay items p) d).1

    pub paced : (n : ℕ) (input : List ℕ) (p : Point) (calls : List ℕ) → HasCode lay p
        → Home input p calls
        → PacedAt n input p calls
    paced zero input p calls code home = record {
      count = 0;
      few = omega arith;
      same = subst (λ r. Same r (course lay items 0 input p))
          (sym (run_none input (state_at lay items p)))
          (subst (λ c. Same (stands' input (Going' (state_at lay items p))) c)
          (sym (course_none lay items input p))
          (record { out = refl; left = refl; finish = refl }));
    }
    paced (suc n) input p calls code home = by_item (slice_get items p.item) refl
        (λ i q c h k. paced n i q c h k)
      where
        by_turn : Paced n → (i : Item) → slice_get items p.item ≡ Some i → (t : Turn)
            → turn lay items p ≡ t
            → GoodTurn items lay placed.rises [] (none_behind items words placed) p t
            → WayTurn items words placed begins stand flows i p t → (k : ℕ) → k ≤ size i
            → Does lay items p.item i k (state_at lay items p) t → PacedAt (suc n) input p calls
        by_turn rest i e (Next q) t g way k few d =
            let is = sym (turn_is lay items p (Some i) e) ∙ t in
            let there : (m : ℕ) → home_by lay items (λ q c. ReturnsHome lay items m input q c)
            p.item calls
            (is_call (Some i)) (returns (Some i)) q =
            λ m. subst
            (λ o. home_by lay items (λ q c. ReturnsHome lay items m input q c) p.item calls
            (is_call o)
            (returns o) q) e (home_step lay items m input p calls (Next q) t (home (suc m))) in
            let b = by_kind input p i e k (next_words p q i e k few d) q way (label_way p q i is)
            (stop_way p q i is)
            (returns (Some i)) (is_call (Some i)) refl refl calls there in
            let h = rest input q b.open_calls g.code b.home in
            let c = course lay items n input q in
            by_steps n input p calls (k + h.count) (run h.count input (state_at lay items q)) c
            (one_more p calls k h.count (left_at q.item + left_behind b.open_calls) c
            (omega (arith, b.less)) h.few)
            (climbs_run i (lay.address (suc p.item)) (state_at lay items q) k (state_at lay items p)
            d h.count input)
            (course_by n input p (slice_get items p.item) (Next q) refl t)
            (record { out = h.same.out; left = h.same.left; finish = h.same.finish })
        by_turn rest i e (Written a len bytes q) t g way k few d =
            let h = rest input q calls g.code
            (λ m. home_step lay items m input p calls (Written a len bytes q) t (home (suc m))) in
            let c = after bytes [] (course lay items n input q) in
            let less = subst (λ x. 4 * k + left_at x ≤ left_at p.item + 4 * passed_words
            (label_of (slice_get items p.item))) (sym way)
            (item_left input p i e k (some_words p.item i e k few (omega (arith, d.0)))) in
            by_steps n input p calls (suc h.count)
            (after' bytes (run h.count input (state_at lay items q))) c
            (omega (
              arith,
              one_more p calls k h.count (left_at q.item + left_behind calls) c
                  (omega (arith, less)) h.few,
              d.0,
            ))
            (run_more h.count input (state_at lay items p)
            ∙ ap (onward' (run h.count) input (state_at lay items p)) d.1)
            (course_by n input p (slice_get items p.item) (Written a len bytes q) refl t)
            (record {
              out = ap (λ o. bytes ++ o) h.same.out;
              left = h.same.left;
              finish
                  = h.same.finish;
            })
        by_turn rest i e (Asked a) t g way k few d =
            let byte = slice_get input 0 in
            let left = drop 1 input in
            let q = behind p.item (given (state_at lay items p) byte) in
            let h = rest left q calls (g byte).0.code
            (λ m. home_step lay items m input p calls (Asked a) t (home (suc m))) in
            let c = course lay items n left q in
            let less = item_left input p i e k (some_words p.item i e k few (omega (arith, d.0))) in
            by_steps n input p calls (suc h.count) (run h.count left (state_at lay items q)) c
            (omega (
              arith,
              one_more p calls k h.count (left_at q.item + left_behind calls) c
                  (omega (arith, less)) h.few,
              d.0,
            ))
            (run_more h.count input (state_at lay items p)
            ∙ ap (onward' (run h.count) input (state_at lay items p)) d.1 ∙ ap (run h.count left)
            (sym (g byte).1))
            (course_by n input p (slice_get items p.item) (Asked a) refl t)
            (record { out = h.same.out; left = h.same.left; finish = h.same.finish })
        by_turn rest i e (Ended code) t g way k few d =
            let c = stands input (Exited code) in
            let less = item_left input p i e k (some_words p.item i e k few (omega (arith, d.0))) in
            by_steps n input p calls 1 (stands' input (Exited' code (state_at lay items p))) c
            (omega (arith, one_more p calls k 0 0 c (omega (arith, less)) (omega arith), d.0))
            (run_more 0 input (state_at lay items p) ∙ ap
            (onward' (run 0) input (state_at lay items p)) d.1)
            (course_by n input p (slice_get items p.item) (Ended code) refl t)
            (record { out = refl; left = refl; finish = refl })
        by_turn rest i e (Trapped kind) t g way k few d = absurd
            (home_step lay items 0 input p calls (Trapped kind) t (home 1))

        by_item : (o : Option Item) → slice_get items p.item ≡ o → Paced n
            → PacedAt (suc n) input p calls
        by_item None e rest = absurd
            (home_step lay items 0 input p calls _ (turn_is lay items p None e) (home 1))
        by_item (Some i) e rest =
            let d = placed.does p i code.0 code.1 e in
            let few = steps_size (state_at lay items p) i in
            let most = d.1.0 in
            let way = subst (λ t. WayTurn items words placed begins stand flows i p t)
            (sym (turn_is lay items p (Some i) e)) (any_way p i e) in
            by_turn rest i e (turn lay items p) refl (turns items words placed p i e code) way d.0
            (omega arith) d.1.1
