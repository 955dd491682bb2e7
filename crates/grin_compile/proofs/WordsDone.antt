-- How many steps are done, to the word: after any number of them no more than there are words
-- before the procedures, in each one
-- that was entered, each time, and behind them.
use Rattle.std.proofs.Common.{◌≡◌, ℕ, zero, suc, ◌+◌, ◌-◌, ◌*◌, ◌<◌, ◌≤◌, Bool, true, false, List, [], ◌∷◌, ◌++◌, map, length, drop, Option, Some, None, slice_get, inl, inr, refl, sym, ap, ◌∙◌, subst, arith}
use Rattle.std.proofs.lemmas.Bool.{true≢false, cases_lt}
use Rattle.std.proofs.lemmas.Option.{slice_get_within}
use Rattle.seq.specs.Lists.{sum_of}
use Rattle.rv32_machine.specs.Steps.{State, Outcome, Next as Next', Written as Written', Asked as Asked', Ended as Ended', Trapped as Trapped', step, given}
use Rattle.rv32_steps.specs.Leads.{at}
use Rattle.rv32_steps.specs.Trace.{trace, trace_after, is_one_of, procedures_at, procedure_from}
use Rattle.rv32_items.specs.declared.Item.{Item}
use Rattle.rv32_items.specs.declared.Item.TheVariants.{Label, Plain, Branch, Jump}
use Rattle.rv32_items.specs.Course.{Layout, Point, Turn, Next, Written, Asked, Ended, Trapped, turn, behind, state_at, label_of}
use Rattle.rv32_items.specs.Placed.{is_instruction, size, times, StepsAtRisingPcs, Does, Placed}
use Rattle.rv32_items.specs.Told.{is_call, returns, home_by, ReturnsHome}
use Rattle.rv32_items.specs.Flows.{begins_procedure, HasStructuredFlow}
use Rattle.rv32_items.specs.Laws.{HasCode, addresses_of}
use Rattle.rv32_items.proofs.Addresses.{none_within, none_at, begin_is, not_one}
use Rattle.rv32_items.proofs.CodeAfterTurn.{turn_is, Fresh, Good, GoodTurn, turn_good, fresh_behind}
use Rattle.rv32_items.proofs.Moments.{trace_none, trace_more, climbs_trace, climbs_trace_part}
use Rattle.rv32_items.proofs.Enters.{next_point, behind_begin, first_is_fresh}
use Rattle.rv32_items.proofs.Forward.{home_step, WayTurn}
use Rattle.grin_compile.proofs.WordsLeft.{sums, steps_size, left_in, left_at, left_behind, Home, Behind, passed_words, item_left, by_kind, label_way, stop_way, any_way, some_words, next_words}

-- ---- how many steps a trace has

length_trace : (m : ℕ) (input : List ℕ) (s : State) → length (trace m input s) ≤ m
length_trace zero input s = omega (arith, ap length (trace_none input s))
length_trace (suc m) input s = omega (
  arith,
  ap length (trace_more m input s),
  by_step (step s)
      (λ i t. length_trace m i t),
)
  where
    by_step : (o : Outcome) → ((i : List ℕ) (t : State) → length (trace m i t) ≤ m)
        → length (trace_after (trace m) input s o) ≤ m
    by_step (Next' t) rest = rest input t
    by_step (Written' a len bytes t) rest = rest input t
    by_step (Asked' a) rest = rest (drop 1 input) (given s (slice_get input 0))
    by_step (Ended' c) rest = omega arith
    by_step (Trapped' kind) rest = omega arith

-- one step, and those behind it
one_step : (m : ℕ) (input : List ℕ) (s : State) (o : Outcome) → step s ≡ o
    → trace (suc m) input s ≡ s.pc ∷ trace_after (trace m) input s o
one_step m input s o h = trace_more m input s ∙ ap (λ o. s.pc ∷ trace_after (trace m) input s o) h

climbs_length : (i : Item) (end : ℕ) (t : State) (k : ℕ) (s : State)
    → StepsAtRisingPcs i (suc k) end s t
    → (m : ℕ) (input : List ℕ) → length (trace (suc k + m) input s) ≡ suc k + length
    (trace m input t)
climbs_length i end t zero s h m input =
    let e : 1 + m ≡ suc m = omega arith in
    let one = ap (λ n. length (trace n input s)) e ∙ ap length (one_step m input s (Next' t) h.1.0)
    in
    omega (arith, one)
climbs_length i end t (suc k) s h m input =
    let e : suc (suc k) + m ≡ suc (suc k + m) = omega arith in
    let one = ap (λ n. length (trace n input s)) e ∙ ap length
    (one_step (suc k + m) input s (Next' h.0) h.1.1.0) in
    let rest = climbs_length i end t k h.0 h.1.1.1.1 m input in
    omega (arith, one, rest)

no_label : (o : Option Item) → is_instruction o ≡ true → label_of o ≡ []
no_label None h = absurd (true≢false (sym h))
no_label (Some (Label l)) h = absurd (true≢false (sym h))
no_label (Some (Plain i)) h = refl
no_label (Some (Branch c a b l)) h = refl
no_label (Some (Jump k l)) h = refl

module _ (items : List Item) (words : List ℕ) (placed : Placed items words) (begins : List ℕ)
    (stand : (b : ℕ) → is_one_of begins b ≡ true → times b items ≡ 1)
    (flows : HasStructuredFlow begins items)
    (weight : ℕ → ℕ)
    (weighs : (n l : ℕ) → slice_get items n ≡ Some (Label l) → is_one_of begins l ≡ true
    → left_in items words placed begins stand flows (suc n) ≤ 4 * sum_of
    (map weight (procedure_from 0 begins l)))
  where
    abbrev lay : Layout
    lay = placed.lay

    abbrev addresses : List ℕ
    addresses = addresses_of lay items begins

    abbrev good : Point → Type 0
    good p = Good items lay placed.rises begins flows.instruction_behind p

    abbrev left : Point → (calls : List ℕ) → ℕ
    left p calls = left_at items words placed begins stand flows p.item + left_behind items words
        placed begins stand
        flows calls

    abbrev At : (input : List ℕ) → Point → (calls : List ℕ) → Type 0
    At input p calls = Home items words placed begins stand flows input p calls

    abbrev sum : List ℕ → ℕ
    sum fs = sum_of (map weight fs)

    -- the steps of a trace, of which the first one enters `first`, are no more than what is left
    -- and the words of what is entered behind it
    pub record Done (m : ℕ) (input : List ℕ) (s : State) (p : Point) (calls first : List ℕ)
        : Type 0 where
      pub entered : List ℕ
      pub passes : procedures_at addresses (trace m input s) ≡ first ++ entered
      pub few : 4 * length (trace m input s) ≤ left p calls + 4 * sum entered

    abbrev Shown : ℕ → Type 0
    Shown b = (m : ℕ) → m ≤ b → (input : List ℕ) (p : Point) (calls : List ℕ) → good p
        → At input p calls
        → Done m input (state_at lay items p) p calls []

    -- ---- an instruction

    module _ (b : ℕ) (shown : Shown b) (input : List ℕ) (p : Point) (i : Item)
        (e : slice_get items p.item ≡ Some i)
        (is : is_instruction (Some i) ≡ true) (calls : List ℕ) (home : At input p calls) where
      abbrev s : State
      s = state_at lay items p

      abbrev first : List ℕ
      first = procedure_from 0 addresses (lay.address p.item)

      within : (c : ℕ) → s.pc < c → c < lay.address (suc p.item) → is_one_of addresses c ≡ false
      within = none_within items lay placed.rises begins stand flows.instruction_behind p.item i e

      -- no label is passed
      none_due : passed_words items words placed begins stand flows weight weighs
          (label_of (slice_get items p.item)) ≡ 0
      none_due = ap (λ ls. passed_words items words placed begins stand flows weight weighs ls)
          (no_label (slice_get items p.item) (ap is_instruction e ∙ is))

      climbs : (q : Point) → good q → (k : ℕ) → StepsAtRisingPcs i k (lay.address (suc p.item)) s
          (state_at lay items q)
          → Behind items words placed begins stand flows weight weighs input p.item k calls q
          → (m : ℕ) → m ≤ b → Done (suc m) input s p calls first
      climbs q g zero h left m le = absurd (true≢false (sym is ∙ h.0))
      climbs q g (suc k) h left m le = elim (cases_lt m k) [
        | inl part ↦ record {
          entered = [];
          passes = climbs_trace_part i (lay.address (suc p.item)) (state_at lay items q) addresses k
              s h within m
              (omega arith) input;
          few = omega (arith, length_trace (suc m) input s, part, left.less, none_due);
        }
        | inr whole ↦
            let r = m - k in
            let count : suc k + r ≡ suc m = omega arith in
            let next = shown r (omega arith) input q left.open_calls g left.home in
            let many = ap (λ n. length (trace n input s)) (sym count)
            ∙ climbs_length i (lay.address (suc p.item)) (state_at lay items q) k s h r input in
            record {
              entered = next.entered;
              passes = ap (λ n. procedures_at addresses (trace n input s)) (sym count)
                  ∙ climbs_trace i (lay.address (suc p.item)) (state_at lay items q) addresses k s h
                  within r input
                  ∙ ap (λ way. first ++ way) next.passes;
              few = omega (arith, many, next.few, left.less, none_due);
            }
      ]

      instruction : HasCode lay p → (m : ℕ) → m ≤ b → Done (suc m) input s p calls first
      instruction code m le =
          let t = turn_is lay items p (Some i) e in
          let g = turn_good items lay placed.rises begins flows.instruction_behind p code i e is in
          let d = placed.does p i code.0 code.1 e in
          let most = d.1.0 in
          let size' = steps_size s i in
          let way = subst (λ t. WayTurn items words placed begins stand flows i p t) (sym t)
          (any_way items words placed begins stand flows weight weighs p i e) in
          by_turn (turn lay items p) refl
          (subst (λ t. GoodTurn items lay placed.rises begins flows.instruction_behind p
          t) (sym t) g) way d.0 (omega arith) d.1.1
        where
          one : (k : ℕ) → k ≤ size i → k ≡ 1
              → 4 + left_at items words placed begins stand flows
              (suc p.item) ≤ left_at items words placed begins stand flows p.item
          one k few is = omega (
            arith,
            is,
            none_due,
            item_left items words placed begins stand flows weight weighs input
                p i e k (some_words items words placed begins stand flows weight weighs p.item i e k
                few
                (omega (arith, is))),
          )

          by_turn : (t : Turn) → turn lay items p ≡ t
              → GoodTurn items lay placed.rises begins flows.instruction_behind p t
              → WayTurn items words placed begins stand flows i p t
              → (k : ℕ) → k ≤ size i → Does lay items p.item i k s t
              → Done (suc m) input s p calls first
          by_turn (Next q) t g way k few d =
              let is = sym (turn_is lay items p (Some i) e) ∙ t in
              let there : (n : ℕ) → home_by lay items (λ q c. ReturnsHome lay items n input q c)
              p.item calls
              (is_call (Some i)) (returns (Some i)) q =
              λ n. subst
              (λ o. home_by lay items (λ q c. ReturnsHome lay items n input q c) p.item calls
              (is_call o)
              (returns o) q) e (home_step lay items n input p calls (Next q) t (home (suc n))) in
              let left = by_kind items words placed begins stand flows weight weighs input p i e k
              (next_words items words placed begins stand flows weight weighs p q i e k few d) q way
              (label_way items words placed begins stand flows weight weighs p q i is)
              (stop_way items words placed begins stand flows weight weighs p q i is)
              (returns (Some i))
              (is_call (Some i)) refl refl calls there in
              climbs q g k d left m le
          by_turn (Written a len bytes q) t g way k few d =
              let next = shown m le input q calls g
              (λ n. home_step lay items n input p calls (Written a len bytes q) t (home (suc n))) in
              let steps = one_step m input s (Written' a len bytes (state_at lay items q)) d.1 in
              let on = ap (λ n. left_at items words placed begins stand flows n) way in
              record {
                entered = next.entered;
                passes = ap (procedures_at addresses) steps ∙ ap (λ way. first ++ way) next.passes;
                few = omega (arith, ap length steps, next.few, one k few d.0, on);
              }
          by_turn (Asked a) t g way k few d =
              let rest = drop 1 input in
              let q = behind p.item (given s (slice_get input 0)) in
              let next = shown m le rest q calls (g (slice_get input 0)).0
              (λ n. home_step lay items n input p calls (Asked a) t (home (suc n))) in
              let steps = one_step m input s (Asked' a) d.1
              ∙ ap (λ v. s.pc ∷ trace m rest v) (sym (g (slice_get input 0)).1) in
              record {
                entered = next.entered;
                passes = ap (procedures_at addresses) steps ∙ ap (λ way. first ++ way) next.passes;
                few = omega (arith, ap length steps, next.few, one k few d.0);
              }
          by_turn (Ended code) t g way k few d =
              let steps = one_step m input s (Ended' code) d.1 in
              record {
                entered = [];
                passes = ap (procedures_at addresses) steps;
                few = omega (arith, ap length steps, one k few d.0);
              }
          by_turn (Trapped kind) t g way k few d = absurd
              (home_step lay items 0 input p calls (Trapped kind) t (home 1))

    -- ---- labels

    -- past a label that takes no word
    label_passed : (input : List ℕ) (p : Point) (l m : ℕ) (calls first : List ℕ)
        → slice_get items p.item ≡ Some (Label l)
        → Done m input (state_at lay items (next_point p)) (next_point p) calls first
        → first ≡ procedure_from 0 begins l → Done m input (state_at lay items p) p calls []
    label_passed input p l m calls first e h is =
        let q = next_point p in
        let stays : state_at lay items q ≡ state_at lay items p = ap (λ a. at p.regs a p.memory)
        (placed.rises.labels p.item l e) in
        let on = item_left items words placed begins stand flows weight weighs input p (Label l) e 0
        (some_words items words placed begins stand flows weight weighs p.item (Label l) e 0
        (omega arith)
        (omega arith)) in
        let due : passed_words items words placed begins stand flows weight weighs
        (label_of (slice_get items p.item)) ≡ sum first + 0 =
        ap (λ o. passed_words items words placed begins stand flows weight weighs (label_of o)) e
        ∙ sums weight (procedure_from 0 begins l) [] ∙ ap (λ f. sum f + 0) (sym is) in
        record {
          entered = first ++ h.entered;
          passes = ap (λ v. procedures_at addresses (trace m input v)) (sym stays) ∙ h.passes;
          few = omega (
            arith,
            h.few,
            on,
            due,
            sums weight first h.entered,
            ap (λ v. length (trace m input v)) stays,
          );
        }

    module _ (b : ℕ) (shown : Shown b) (m : ℕ) (le : m ≤ b) (input calls : List ℕ) where
      abbrev Now : Point → Type 0
      Now p = Done (suc m) input (state_at lay items p) p calls []

      at_instruction : (p : Point) (i : Item) → slice_get items p.item ≡ Some i
          → is_instruction (Some i) ≡ true → good p
          → At input p calls → Now p
      at_instruction p i e is g home =
          let h = instruction b shown input p i e is calls home g.code m le in
          let none = not_one 0 addresses (lay.address p.item)
          (none_at items lay placed.rises begins stand flows.instruction_behind p.item i e is
          g.fresh) in
          subst (λ f. Done (suc m) input (state_at lay items p) p calls f) none h

      past_labels : (d : ℕ) (p : Point) → length items ≤ p.item + d → good p → At input p calls
          → (o : Option Item)
          → slice_get items p.item ≡ o → Now p
      past_labels d p top g home None e = absurd
          (home_step lay items 0 input p calls _ (turn_is lay items p None e) (home 1))
      past_labels d p top g home (Some (Plain i)) e = at_instruction p (Plain i) e refl g home
      past_labels d p top g home (Some (Branch c x y l)) e
          = at_instruction p (Branch c x y l) e refl g home
      past_labels d p top g home (Some (Jump k l)) e = at_instruction p (Jump k l) e refl g home
      past_labels zero p top g home (Some (Label l)) e =
          let lt = slice_get_within items p.item (Label l) e in absurd (omega arith)
      past_labels (suc d) p top g home (Some (Label l)) e =
          by_begin (is_one_of begins l) refl
          (λ fresh. past_labels d (next_point p) (omega arith)
          (record { code = g.code; fresh = fresh }) next
          (slice_get items (suc p.item)) refl)
        where
          next : At input (next_point p) calls
          next n = subst
              (λ o. home_by lay items (λ q c. ReturnsHome lay items n input q c) p.item calls
              (is_call o)
              (returns o) (next_point p)) e
              (home_step lay items n input p calls (Next (next_point p))
              (turn_is lay items p (Some (Label l)) e)
              (home (suc n)))

          by_begin : (t : Bool) → is_one_of begins l ≡ t
              → (Fresh begins items (suc p.item) → Now (next_point p)) → Now p
          by_begin false n rest =
              label_passed input p l (suc m) calls [] e
              (rest (fresh_behind items lay placed.rises begins flows.instruction_behind p.item
              (Some (Label l)) e n)) (sym (not_one 0 begins l n))
          by_begin true y rest =
              let i = behind_begin items words placed begins stand flows.instruction_behind p.item
              (ap (begins_procedure begins) e ∙ y) in
              let h = instruction b shown input (next_point p) i.0 i.1.0 i.1.1 calls next g.code m
              le in
              let same = ap (λ a. procedure_from 0 addresses a) (placed.rises.labels p.item l e)
              ∙ begin_is items lay placed.rises begins stand flows.instruction_behind p.item l e y
              in
              label_passed input p l (suc m) calls
              (procedure_from 0 addresses (lay.address (suc p.item))) e h same

    started : (input : List ℕ) (p : Point) (calls : List ℕ)
        → Done 0 input (state_at lay items p) p calls []
    started input p calls = record {
      entered = [];
      passes = ap (procedures_at addresses) (trace_none input (state_at lay items p));
      few = omega (arith, ap length (trace_none input (state_at lay items p)));
    }

    steps_done : (b : ℕ) → Shown b
    steps_done zero m le input p calls g home =
        let none : 0 ≡ m = omega arith in
        subst (λ n. Done n input (state_at lay items p) p calls []) none (started input p calls)
    steps_done (suc b) zero le input p calls g home = started input p calls
    steps_done (suc b) (suc m) le input p calls g home =
        past_labels b (steps_done b) m (omega arith) input calls (length items) p (omega arith) g
        home
        (slice_get items p.item) refl

    -- from the first item on
    pub done_from : (m : ℕ) (input : List ℕ) (p : Point) → HasCode lay p → p.item ≡ 0
        → At input p []
        → 4 * length (trace m input (state_at lay items p)) ≤ left p [] + 4 * sum
        (procedures_at addresses (trace m input (state_at lay items p)))
    done_from m input p code at_first home =
        let h = steps_done m m (omega arith) input p []
        (record { code = code; fresh = first_is_fresh begins items p.item at_first }) home in
        omega (arith, h.few, ap sum h.passes)
