-- How soon the machine has done so many items.
--
-- What is left to do at a point has a bound that falls by the steps of each item: the sizes of the
-- items from the point on, and for
-- each open call the sizes of those behind it. An item goes on to a later one, which has no more
-- behind it. A call leaves what is
-- behind it to its return. A return goes to what its call left. Only where a procedure begins is
-- there more to do again, and that
-- is all items at most. So the steps that were done are at most all items once, and once more for
-- each procedure that was passed.
-- A point at the label of a procedure has nothing left: what the procedure does is counted where
-- the label is passed.
use Rattle.std.proofs.Common.{◌≡◌, ℕ, zero, suc, ◌+◌, ◌*◌, ◌≤◌, ◌⊎◌, Bool, true, false, nat_eq, ◌||◌, List, [], ◌∷◌, ◌++◌, length, drop, Option, Some, None, slice_get, inl, inr, refl, sym, ap, ◌∙◌, subst, length-append, arith}
use Rattle.std.specs.Prelude.{if◌then◌else◌}
use Rattle.std.proofs.lemmas.Bool.{true≢false}
use Rattle.rv32_machine.specs.Arithmetic.{is_taken}
use Rattle.rv32_machine.specs.Steps.{State, given, reg}
use Rattle.rv32_machine.specs.Runs.{Run, Going as Going', Exited as Exited', stands as stands', after as after', onward as onward', run}
use Rattle.rv32_machine.proofs.Composed.{run_none, run_more}
use Rattle.rv32_steps.specs.Trace.{is_one_of, procedures_at, procedure_from}
use Rattle.rv32_items.specs.declared.Item.{Item}
use Rattle.rv32_items.specs.declared.Item.TheVariants.{Label, Plain, Branch, Jump}
use Rattle.rv32_items.specs.Course.{Layout, Point, Course, Turn, Next, Written, Asked, Ended, Trapped, turn, turn_of, state_at, behind, kind_of, label_of, Exited, stands, after, onward, course}
use Rattle.rv32_items.specs.Placed.{size, size_of, times, steps, Does, Placed}
use Rattle.rv32_items.specs.Told.{is_call, returns, home_by, ReturnsHome}
use Rattle.rv32_items.specs.Flows.{begins_procedure, IsForwardTransfer, HasStructuredFlow}
use Rattle.rv32_items.specs.Laws.{HasCode}
use Rattle.rv32_items.specs.Pace.{ItemsBoundSteps}
use Rattle.rv32_items.proofs.Addresses.{not_one}
use Rattle.rv32_items.proofs.CodeAfterTurn.{turn_is, GoodTurn}
use Rattle.rv32_items.proofs.Moments.{Same, same_seen, course_none, climbs_run}
use Rattle.rv32_items.proofs.Enters.{course_is}
use Rattle.rv32_items.proofs.Forward.{home_step, Way, WayTurn, turn_way}
use Rattle.rv32_items.proofs.Reached.{none_behind, turns}

-- ---- the sizes of the items from the n-th on

abbrev size_from : List Item → ℕ → ℕ
size_from [] n = 0
size_from (i ∷ is) zero = size_of (i ∷ is)
size_from (i ∷ is) (suc n) = size_from is n

size_whole : (is : List Item) → size_from is 0 ≡ size_of is
size_whole [] = refl
size_whole (i ∷ is) = refl

size_here : (is : List Item) (n : ℕ) (i : Item) → slice_get is n ≡ Some i
    → size_from is n ≡ size i + size_from is (suc n)
size_here [] n i e = cc
size_here (x ∷ is) zero i e = let same : x ≡ i = cc
    in ap (λ y. size y + size_of is) same ∙ ap (λ s. size i + s) (sym (size_whole is))
size_here (x ∷ is) (suc n) i e = size_here is n i e

size_all : (is : List Item) (n : ℕ) → size_from is n ≤ size_of is
size_all [] n = omega arith
size_all (i ∷ is) zero = omega arith
size_all (i ∷ is) (suc n) = omega (arith, size_all is n)

size_on : (is : List Item) (n t : ℕ) → n ≤ t → size_from is t ≤ size_from is n
size_on [] n t le = omega arith
size_on (i ∷ is) zero t le = size_all (i ∷ is) t
size_on (i ∷ is) (suc n) zero le = absurd (omega arith)
size_on (i ∷ is) (suc n) (suc t) le = size_on is n t (omega arith)

-- an item takes no more steps than it has words
steps_size : (s : State) (i : Item) → steps s i ≤ size i
steps_size s (Label l) = omega arith
steps_size s (Plain i) = omega arith
steps_size s (Jump k l) = omega arith
steps_size s (Branch cond left right l) = go (is_taken (kind_of cond) (reg s left) (reg s right))
  where
    go : (b : Bool) → (if b then 3 else 1) ≤ 3
    go true = omega arith
    go false = omega arith

-- ---- the procedures that are passed

module _ (begins : List ℕ) where
  abbrev passed_procedures : Course → ℕ
  passed_procedures c = length (procedures_at begins c.passed)

  one_there : (f : ℕ) (bs : List ℕ) (a : ℕ) → is_one_of bs a ≡ true
      → length (procedure_from f bs a) ≡ 1
  one_there f [] a h = absurd (true≢false (sym h))
  one_there f (b ∷ bs) a h = go (nat_eq a b) h (λ r. one_there (suc f) bs a r)
    where
      go : (t : Bool) → (t || is_one_of bs a) ≡ true
          → (is_one_of bs a ≡ true → length (procedure_from (suc f) bs a) ≡ 1)
          → length (if t then f ∷ [] else procedure_from (suc f) bs a) ≡ 1
      go true h rest = refl
      go false h rest = rest h

  procedure_passed : (o : Option Item) (c : Course) → begins_procedure begins o ≡ true
      → passed_procedures (after [] (label_of o) c) ≡ suc (passed_procedures c)
  procedure_passed None c h = absurd (true≢false (sym h))
  procedure_passed (Some (Plain i)) c h = absurd (true≢false (sym h))
  procedure_passed (Some (Branch x y z l)) c h = absurd (true≢false (sym h))
  procedure_passed (Some (Jump k l)) c h = absurd (true≢false (sym h))
  procedure_passed (Some (Label l)) c h =
      let both = length-append (procedure_from 0 begins l) (procedures_at begins c.passed) in
      omega (arith, both, one_there 0 begins l h)

  none_passed : (o : Option Item) (c : Course) → begins_procedure begins o ≡ false
      → passed_procedures (after [] (label_of o) c) ≡ passed_procedures c
  none_passed None c h = refl
  none_passed (Some (Plain i)) c h = refl
  none_passed (Some (Branch x y z l)) c h = refl
  none_passed (Some (Jump k l)) c h = refl
  none_passed (Some (Label l)) c h = ap (λ f. length (f ++ procedures_at begins c.passed))
      (not_one 0 begins l h)

  begin_size : (o : Option Item) (i : Item) → o ≡ Some i → begins_procedure begins o ≡ true
      → size i ≡ 0
  begin_size None i e h = cc
  begin_size (Some (Label l)) i e h = let same : Label l ≡ i = cc in ap size (sym same)
  begin_size (Some (Plain x)) i e h = absurd (true≢false (sym h))
  begin_size (Some (Branch x y z l)) i e h = absurd (true≢false (sym h))
  begin_size (Some (Jump k l)) i e h = absurd (true≢false (sym h))

-- ---- what is left to do

module _ (items : List Item) (words : List ℕ) (placed : Placed items words) (begins : List ℕ)
    (stand : (b : ℕ) → is_one_of begins b ≡ true → times b items ≡ 1)
    (flows : HasStructuredFlow begins items) where
  abbrev lay : Layout
  lay = placed.lay

  abbrev Home : (input : List ℕ) → Point → (calls : List ℕ) → Type 0
  Home input p calls = (n : ℕ) → ReturnsHome lay items n input p calls

  -- at an item
  abbrev left_by : Bool → ℕ → ℕ
  left_by b n = if b then 0 else size_from items n

  abbrev left_at : ℕ → ℕ
  left_at n = left_by (begins_procedure begins (slice_get items n)) n

  -- behind the open calls
  abbrev left_behind : (calls : List ℕ) → ℕ
  left_behind [] = 0
  left_behind (c ∷ calls) = size_from items c + left_behind calls

  left_less : (n : ℕ) → left_at n ≤ size_from items n
  left_less n = go (begins_procedure begins (slice_get items n))
    where
      go : (b : Bool) → left_by b n ≤ size_from items n
      go true = omega arith
      go false = omega arith

  none_left : (n : ℕ) → begins_procedure begins (slice_get items n) ≡ true → left_at n ≡ 0
  none_left n h = ap (λ b. left_by b n) h

  abbrev count_of : Course → ℕ
  count_of c = passed_procedures begins c

  record PacedAt (n : ℕ) (input : List ℕ) (p : Point) (calls : List ℕ) : Type 0 where
    pub count : ℕ
    pub few : count ≤ (left_at p.item + left_behind calls) + size_of items * count_of
        (course lay items n input p)
    pub same : Same (run count input (state_at lay items p)) (course lay items n input p)

  -- one item more: its steps, and those of the rest, which has no more left than what stands behind
  -- the item
  one_more : (p : Point) (i : Item) → slice_get items p.item ≡ Some i
      → (calls : List ℕ) (k m left : ℕ) (c : Course) → k ≤ size i
      → left ≤ size_from items (suc p.item) + left_behind calls
      → m ≤ left + size_of items * count_of c → k + m ≤ (left_at p.item + left_behind calls) +
      size_of items * count_of (after [] (label_of (slice_get items p.item)) c)
  one_more p i e calls k m left c few on rest = go
      (begins_procedure begins (slice_get items p.item)) refl
    where
      go : (b : Bool) → begins_procedure begins (slice_get items p.item) ≡ b
          → k + m ≤ (left_by b p.item + left_behind calls) + size_of items * count_of
          (after [] (label_of (slice_get items p.item)) c)
      go true h =
          let none = begin_size begins (slice_get items p.item) i e h in
          let more = procedure_passed begins (slice_get items p.item) c h in
          let all = size_all items (suc p.item) in
          let product : size_of items * count_of (after [] (label_of (slice_get items p.item)) c) ≡
          size_of items + size_of items * count_of c
          = ap (λ n. size_of items * n) more ∙ (omega arith) in
          omega (arith, few, on, rest, none, all, product)
      go false h =
          let more = none_passed begins (slice_get items p.item) c h in
          let here = size_here items p.item i e in
          let product : size_of items * count_of (after [] (label_of (slice_get items p.item)) c) ≡
          size_of items * count_of c = ap (λ n. size_of items * n) more in
          omega (arith, few, on, rest, here, product)

  any_way : (p : Point) (i : Item) → slice_get items p.item ≡ Some i
      → WayTurn items words placed begins stand flows i p (turn_of lay items p (Some i))
  any_way p (Label l) e = λ other. (inl refl, λ call. absurd (true≢false (sym call)))
  any_way p (Plain x) e = turn_way items words placed begins stand flows p (Plain x) e refl
  any_way p (Branch c a b l) e = turn_way items words placed begins stand flows p (Branch c a b l) e
      refl
  any_way p (Jump k l) e = turn_way items words placed begins stand flows p (Jump k l) e refl

  -- where an item goes to, there is no more left than what stands behind it
  way_left : (i : Item) (n t : ℕ) → Way items words placed begins stand flows i n t
      → left_at t ≤ size_from items (suc n)
  way_left i n t w = by_way w.0
    where
      later : suc n ≤ t → left_at t ≤ size_from items (suc n)
      later le = omega (arith, left_less t, size_on items (suc n) t le)

      by_way : (t ≡ suc n) ⊎ ((t ≤ length items) × IsForwardTransfer begins items flows.stops n t)
          → left_at t ≤ size_from items (suc n)
      by_way (inl e) = later (omega arith)
      by_way (inr (top, inl on)) = later (omega (arith, on.0))
      by_way (inr (top, inr (inl begin))) = omega (arith, none_left t begin)
      by_way (inr (top, inr (inr stop))) = later (omega (arith, stop.0))

  -- the calls that are open behind an item, from which each return goes home as well
  record Behind (input : List ℕ) (from : ℕ) (calls : List ℕ) (q : Point) : Type 0 where
    pub open_calls : List ℕ
    pub home : Home input q open_calls
    pub less : left_at q.item + left_behind open_calls ≤ size_from items (suc from) + left_behind
        calls

  module _ (input : List ℕ) (p : Point) (i : Item) (e : slice_get items p.item ≡ Some i) (q : Point)
      (way : WayTurn items words placed begins stand flows i p (Next q)) where
    by_kind : (closes opens : Bool) → returns (Some i) ≡ closes → is_call (Some i) ≡ opens
        → (calls : List ℕ)
        → ((n : ℕ) → home_by lay items (λ q c. ReturnsHome lay items n input q c) p.item calls opens
        closes q) → Behind input p.item calls q
    by_kind false false r c calls h =
        record {
          open_calls = calls;
          home = h;
          less
              = omega (arith, way_left i p.item q.item (way r));
        }
    by_kind false true r c calls h =
        record {
          open_calls = suc p.item ∷ calls;
          home = h;
          less
              = omega (arith, none_left q.item ((way r).1 c));
        }
    by_kind true false r c [] h = absurd (h 0)
    by_kind true false r c (x ∷ calls) h =
        let there = (h 0).0 in
        let at : left_at q.item ≤ size_from items x
        = subst (λ y. left_at q.item ≤ size_from items y) there (left_less q.item) in
        record { open_calls = calls; home = λ n. (h n).1; less = omega (arith, at) }
    by_kind true true r c calls h = absurd (not_both i r c)
      where
        not_both : (i : Item) → returns (Some i) ≡ true → is_call (Some i) ≡ true → ⊥
        not_both (Label l) r c = true≢false (sym r)
        not_both (Plain i) r c = true≢false (sym c)
        not_both (Branch x y z l) r c = true≢false (sym r)
        not_both (Jump k l) r c = true≢false (sym r)

  -- ---- one item, and then the rest

  abbrev course_by : (n : ℕ) (input : List ℕ) (p : Point) (o : Option Item) (t : Turn)
      → slice_get items p.item ≡ o → turn lay items p ≡ t
      → course lay items (suc n) input p ≡ after [] (label_of o)
      (onward lay items (course lay items n) input p t)
  course_by = course_is items words placed begins stand flows.instruction_behind

  by_steps : (n : ℕ) (input : List ℕ) (p : Point) (calls : List ℕ) (m : ℕ) (r : Run) (c : Course)
      → m ≤ (left_at p.item + left_behind calls) + size_of items * count_of
      (after [] (label_of (slice_get items p.item)) c)
      → run m input (state_at lay items p) ≡ r → course lay items (suc n) input p ≡ after []
      (label_of (slice_get items p.item)) c
      → Same r (after [] (label_of (slice_get items p.item)) c) → PacedAt (suc n) input p calls
  by_steps n input p calls m r c few er ec h = record {
    count = m;
    few = subst (λ v. m ≤ (left_at p.item + left_behind calls) + size_of items * count_of v)
        (sym ec) few;
    same = subst (λ v. Same v (course lay items (suc n) input p)) (sym er)
        (subst (λ v. Same r v) (sym ec) h);
  }

  abbrev Paced : ℕ → Type 0
  Paced n = (input : List ℕ) (p : Point) (calls : List ℕ) → HasCode lay p → Home input p calls
      → PacedAt n input p calls

  paced : (n : ℕ) (input : List ℕ) (p : Point) (calls : List ℕ) → HasCode lay p → Home input p calls
      → PacedAt n input p calls
  paced zero input p calls code home = record {
    count = 0;
    few = omega arith;
    same = subst (λ r. Same r (course lay items 0 input p))
        (sym (run_none input (state_at lay items p)))
        (subst (λ c. Same (stands' input (Going' (state_at lay items p))) c)
        (sym (course_none lay items input p))
        (record { out = refl; left = refl; finish = refl }));
  }
  paced (suc n) input p calls code home = by_item (slice_get items p.item) refl
      (λ i q c h k. paced n i q c h k)
    where
      by_turn : Paced n → (i : Item) → slice_get items p.item ≡ Some i → (t : Turn)
          → turn lay items p ≡ t → GoodTurn items lay placed.rises []
          (none_behind items words placed) p t
          → WayTurn items words placed begins stand flows i p t → (k : ℕ) → k ≤ size i
          → Does lay items p.item i k (state_at lay items p) t → PacedAt (suc n) input p calls
      by_turn rest i e (Next q) t g way k few d =
          let there : (m : ℕ) → home_by lay items (λ q c. ReturnsHome lay items m input q c) p.item
          calls (is_call (Some i)) (returns (Some i)) q =
          λ m. subst
          (λ o. home_by lay items (λ q c. ReturnsHome lay items m input q c) p.item calls
          (is_call o) (returns o) q) e
          (home_step lay items m input p calls (Next q) t (home (suc m))) in
          let b = by_kind input p i e q way (returns (Some i)) (is_call (Some i)) refl refl calls
          there in
          let h = rest input q b.open_calls g.code b.home in
          let c = course lay items n input q in
          by_steps n input p calls (k + h.count) (run h.count input (state_at lay items q)) c
          (one_more p i e calls k h.count (left_at q.item + left_behind b.open_calls) c few b.less
          h.few)
          (climbs_run i (lay.address (suc p.item)) (state_at lay items q) k (state_at lay items p) d
          h.count input)
          (course_by n input p (slice_get items p.item) (Next q) refl t)
          (record { out = h.same.out; left = h.same.left; finish = h.same.finish })
      by_turn rest i e (Written a len bytes q) t g way k few d =
          let h = rest input q calls g.code
          (λ m. home_step lay items m input p calls (Written a len bytes q) t (home (suc m))) in
          let c = after bytes [] (course lay items n input q) in
          let less : left_at q.item + left_behind calls ≤ size_from items (suc p.item) + left_behind
          calls = subst
          (λ x. left_at x + left_behind calls ≤ size_from items (suc p.item) + left_behind
          calls) (sym way) (omega (arith, left_less (suc p.item))) in
          by_steps n input p calls (suc h.count)
          (after' bytes (run h.count input (state_at lay items q))) c
          (omega (
            arith,
            one_more p i e calls k h.count (left_at q.item + left_behind calls) c few
                less h.few,
            d.0,
          ))
          (run_more h.count input (state_at lay items p) ∙ ap
          (onward' (run h.count) input (state_at lay items p)) d.1)
          (course_by n input p (slice_get items p.item) (Written a len bytes q) refl t)
          (record {
            out = ap (λ o. bytes ++ o) h.same.out;
            left = h.same.left;
            finish
                = h.same.finish;
          })
      by_turn rest i e (Asked a) t g way k few d =
          let byte = slice_get input 0 in
          let left = drop 1 input in
          let q = behind p.item (given (state_at lay items p) byte) in
          let h = rest left q calls (g byte).0.code
          (λ m. home_step lay items m input p calls (Asked a) t (home (suc m))) in
          let c = course lay items n left q in
          by_steps n input p calls (suc h.count) (run h.count left (state_at lay items q)) c
          (omega (
            arith,
            one_more p i e calls k h.count (left_at q.item + left_behind calls) c few
                (omega (arith, left_less (suc p.item))) h.few,
            d.0,
          ))
          (run_more h.count input (state_at lay items p) ∙ ap
          (onward' (run h.count) input (state_at lay items p)) d.1 ∙ ap (run h.count left)
          (sym (g byte).1))
          (course_by n input p (slice_get items p.item) (Asked a) refl t)
          (record { out = h.same.out; left = h.same.left; finish = h.same.finish })
      by_turn rest i e (Ended code) t g way k few d =
          let c = stands input (Exited code) in
          by_steps n input p calls 1 (stands' input (Exited' code (state_at lay items p))) c
          (omega (arith, one_more p i e calls k 0 0 c few (omega arith) (omega arith), d.0))
          (run_more 0 input (state_at lay items p) ∙ ap
          (onward' (run 0) input (state_at lay items p)) d.1)
          (course_by n input p (slice_get items p.item) (Ended code) refl t)
          (record { out = refl; left = refl; finish = refl })
      by_turn rest i e (Trapped kind) t g way k few d
          = absurd (home_step lay items 0 input p calls (Trapped kind) t (home 1))

      by_item : (o : Option Item) → slice_get items p.item ≡ o → Paced n
          → PacedAt (suc n) input p calls
      by_item None e rest = absurd
          (home_step lay items 0 input p calls _ (turn_is lay items p None e) (home 1))
      by_item (Some i) e rest =
          let d = placed.does p i code.0 code.1 e in
          let few = steps_size (state_at lay items p) i in
          let most = d.1.0 in
          let way = subst (λ t. WayTurn items words placed begins stand flows i p t)
          (sym (turn_is lay items p (Some i) e)) (any_way p i e) in
          by_turn rest i e (turn lay items p) refl (turns items words placed p i e code) way d.0
          (omega arith) d.1.1

-- ---- the law

pub items_keep_pace : ItemsBoundSteps
items_keep_pace items words placed p i begins code first home stand flows n =
    let h = paced items words placed begins stand flows n i p [] code home in
    let left = left_less items words placed begins stand flows p.item in
    let all = size_all items p.item in
    (h.count, (omega (arith, h.few, left, all), same_seen placed.lay items p i h.count n h.same))
