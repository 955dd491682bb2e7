-- The last step of a run in the procedures is that of the jump by which its course left them.
--
-- Where the course goes on, the machine goes on along a way of so many steps (`Passes`). So there
-- is a way to the point where the
-- course stands at the jump; the way of the jump ends 4 before its item's end; and from then on
-- each item is one of the stops,
-- whose steps all stand at their addresses or behind them. Since a run that has ended stays, all of
-- this is said of one number of
-- steps, at which it has ended.
use Rattle.std.proofs.Common.{◌≡◌, ◌⊎◌, ℕ, zero, suc, ◌+◌, ◌-◌, ◌*◌, ◌<◌, ◌≤◌, true, false, List, [], ◌∷◌, ◌++◌, length, drop, Option, Some, None, slice_get, inl, inr, refl, sym, ap, ◌∙◌, subst, append_assoc, arith}
use Rattle.std.proofs.lemmas.Bool.{true≢false, cases_eq}
use Rattle.std.proofs.lemmas.Option.{same_Some, slice_get_within}
use Rattle.seq.proofs.Lists.{drop_past, some_at as there}
use Rattle.rv32_machine.specs.Steps.{State, Outcome, Next as Next', Written as Written', Asked as Asked', Ended as Ended', Trapped as Trapped', step, given, set_reg}
use Rattle.rv32_machine.specs.Runs.{Exited as Exited', onward as onward', run, has_ended}
use Rattle.rv32_machine.proofs.Composed.{run_none, run_more, end_stays}
use Rattle.headline.specs.Carries.{exits}
use Rattle.rv32_steps.specs.Seen.{finish_of as finish_of'}
use Rattle.rv32_steps.specs.Trace.{trace, trace_after, AllAtOrAfter, IsLastBefore}
use Rattle.rv32_items.specs.declared.Item.{Item}
use Rattle.rv32_items.specs.declared.Item.TheVariants.{Label, Plain, Branch, Jump}
use Rattle.rv32_items.specs.Course.{Layout, Point, Turn, Next, Written, Asked, Ended, Trapped, turn, to_item, state_at, behind, label_from, CourseEnd, Going, Exited, Stopped, onward, course, NeverTrapsOn}
use Rattle.rv32_items.specs.Placed.{is_instruction, is_jump, size_of, StepsAtRisingPcs, Does, Placed, AddressesRise}
use Rattle.rv32_items.specs.Told.{finish_of}
use Rattle.rv32_items.specs.Flows.{begins_procedure, IsStopItem, HasStructuredFlow}
use Rattle.rv32_items.specs.Laws.{HasCode}
use Rattle.rv32_items.specs.Leaving.{LeavesByLinkJump, ExitsWithRegister}
use Rattle.rv32_items.specs.LastStep.{LastStepIsAtLinkJump, ProceduresPrecedeStops, StopsAreLast, ExitKeepsRegisters}
use Rattle.rv32_items.proofs.Addresses.{addresses_rise, begin_at}
use Rattle.rv32_items.proofs.CodeAfterTurn.{turn_is, Good, GoodTurn}
use Rattle.rv32_items.proofs.Moments.{course_none, trace_more, climbs_run}
use Rattle.rv32_items.proofs.Enters.{entered, course_is, never_next, never_written, never_asked, no_trap}
use Rattle.rv32_items.proofs.Reached.{none_stands, none_behind, none_fresh, turns}

-- ---- ways

from_lower : (a b : ℕ) → b ≤ a → (way : List ℕ) → AllAtOrAfter a way → AllAtOrAfter b way
from_lower a b le [] h = tt
from_lower a b le (x ∷ way) h = (omega (arith, h.0), from_lower a b le way h.1)

from_both : (a : ℕ) (way more : List ℕ) → AllAtOrAfter a way → AllAtOrAfter a more
    → AllAtOrAfter a (way ++ more)
from_both a [] more h r = r
from_both a (x ∷ way) more h r = (h.0, from_both a way more h.1 r)

-- a run that has ended has no further step
trace_stays : (m n : ℕ) (input : List ℕ) (s : State) → has_ended (run m input s).end ≡ true
    → trace (m + n) input s ≡ trace m input s
trace_stays zero n input s h = absurd
    (true≢false (sym h ∙ ap (λ r. has_ended r.end) (run_none input s)))
trace_stays (suc m) n input s h =
    let count : suc m + n ≡ suc (m + n) = omega arith in
    ap (λ k. trace k input s) count
    ∙ trace_more (m + n) input s
    ∙ ap (λ way. s.pc ∷ way)
    (by_step (step s) (sym (ap (λ r. has_ended r.end) (run_more m input s)) ∙ h)
    (λ i t. trace_stays m n i t))
    ∙ sym (trace_more m input s)
  where
    by_step : (o : Outcome) → has_ended (onward' (run m) input s o).end ≡ true
        → ((i : List ℕ) (t : State) → has_ended (run m i t).end ≡ true
        → trace (m + n) i t ≡ trace m i t) → trace_after (trace (m + n)) input s o ≡ trace_after
        (trace m) input s o
    by_step (Next' t) h rest = rest input t h
    by_step (Written' a len bytes t) h rest = rest input t h
    by_step (Asked' a) h rest = rest (drop 1 input) (given s (slice_get input 0)) h
    by_step (Ended' c) h rest = refl
    by_step (Trapped' k) h rest = refl

-- where the program ends, the run stands there, and the step is the last one
exit_step : (m : ℕ) (input : List ℕ) (s : State) (c : ℕ) → step s ≡ Ended' c
    → (code : ℕ) (t : State) → (run m input s).end ≡ Exited' code t → (t ≡ s)
    × (trace m input s ≡ s.pc ∷ [])
exit_step zero input s c h code t e = let f = sym (ap (λ r. r.end) (run_none input s)) ∙ e in cc
exit_step (suc m) input s c h code t e =
    let ran : Exited' c s ≡ Exited' code t = sym
    (ap (λ r. r.end) (run_more m input s ∙ ap (onward' (run m) input s) h)) ∙ e in
    let same : t ≡ s = cc in
    (same, trace_more m input s ∙ ap (λ o. s.pc ∷ trace_after (trace m) input s o) h)

-- a way whose last address is 4 before an end
record EndsBefore (end : ℕ) (way : List ℕ) : Type 0 where
  pub front : List ℕ
  pub at : ℕ
  pub splits : way ≡ front ++ at ∷ []
  pub at_end : at + 4 ≡ end

-- the way of an item's steps, from the first one on
record Climbed (i : Item) (end : ℕ) (t : State) (k : ℕ) (s : State) : Type 0 where
  pub way : List ℕ
  pub traced : (m : ℕ) (input : List ℕ) → trace (k + m) input s ≡ way ++ trace m input t
  pub from : AllAtOrAfter s.pc way
  pub closes : is_jump i ≡ true → EndsBefore end way

no_jump_stands : (i : Item) → is_instruction (Some i) ≡ false → is_jump i ≡ true → ⊥
no_jump_stands (Label l) h j = true≢false (sym j)
no_jump_stands (Plain i) h j = true≢false (sym j)
no_jump_stands (Branch c a b l) h j = true≢false (sym j)
no_jump_stands (Jump k l) h j = true≢false h

climbed : (i : Item) (end : ℕ) (t : State) (k : ℕ) (s : State) → StepsAtRisingPcs i k end s t
    → Climbed i end t k s
climbed i end t zero s h = record {
  way = [];
  traced = λ m input. let e : 0 + m ≡ m = omega arith
      in ap (λ n. trace n input s) e ∙ ap (trace m input) h.1;
  from = tt;
  closes = λ j. absurd (no_jump_stands i h.0 j);
}
climbed i end t (suc zero) s h = record {
  way = s.pc ∷ [];
  traced = λ m input.
      let e : 1 + m ≡ suc m = omega arith in
      ap (λ n. trace n input s) e ∙ trace_more m input s ∙ ap
      (λ o. s.pc ∷ trace_after (trace m) input s o) h.1.0;
  from = (omega arith, tt);
  closes = λ j. record { front = []; at = s.pc; splits = refl; at_end = h.1.1.at_end j };
}
climbed i end t (suc (suc k)) s h =
    let u = h.0 in
    let r = climbed i end t (suc k) u h.1.1.1.1 in
    let up = h.1.0 in record {
      way = s.pc ∷ r.way;
      traced = λ m input.
          let e : suc (suc k) + m ≡ suc (suc k + m) = omega arith in
          ap (λ n. trace n input s) e ∙ trace_more (suc k + m) input s
          ∙ ap (λ o. s.pc ∷ trace_after (trace (suc k + m)) input s o) h.1.1.0
          ∙ ap (λ way. s.pc ∷ way) (r.traced m input);
      from = (omega arith, from_lower u.pc s.pc (omega arith) r.way r.from);
      closes = λ j. let c = r.closes j in record {
        front = s.pc ∷ c.front;
        at = c.at;
        splits = ap (λ way. s.pc ∷ way) c.splits;
        at_end
            = c.at_end;
      };
    }

module _ (items : List Item) (words : List ℕ) (placed : Placed items words) where
  abbrev lay : Layout
  lay = placed.lay

  abbrev Never : List ℕ → Point → Type 0
  Never input p = NeverTrapsOn lay items input p

  -- ---- one item

  -- it goes on to a point, and the machine along a way
  record Passes (input : List ℕ) (p : Point) : Type 0 where
    pub left : List ℕ
    pub next : Point
    pub code : HasCode lay next
    pub never : Never left next
    pub goes_on : (n : ℕ) → (course lay items (suc n) input p).end ≡
        (course lay items n left next).end
    pub steps : ℕ
    pub way : List ℕ
    pub traced : (m : ℕ) → trace (steps + m) input (state_at lay items p) ≡ way
        ++ trace m left (state_at lay items next)
    pub ran : (m : ℕ) → (run (steps + m) input (state_at lay items p)).end ≡
        (run m left (state_at lay items next)).end
    pub from : AllAtOrAfter (lay.address p.item) way
    pub closes : (link l : ℕ) → slice_get items p.item ≡ Some (Jump link l)
        → EndsBefore (lay.address (suc p.item)) way

  -- or it ends the program, and is no jump
  record Ends (input : List ℕ) (p : Point) : Type 0 where
    pub code : ℕ
    pub ends : step (state_at lay items p) ≡ Ended' code
    pub exits : (n : ℕ) → (course lay items (suc n) input p).end ≡ Exited code
    pub no_jump : (link l : ℕ) → slice_get items p.item ≡ Some (Jump link l) → ⊥

  jump_is : (i : Item) (n link l : ℕ) → slice_get items n ≡ Some i
      → slice_get items n ≡ Some (Jump link l) → is_jump i ≡ true
  jump_is i n link l e j = let same : i ≡ Jump link l = cc in ap is_jump same

  -- a jump goes on, or traps
  abbrev IsMove : Turn → Type 0
  IsMove (Next q) = Unit {0}
  IsMove (Trapped kind) = Unit {0}
  IsMove _ = ⊥

  jump_moves : (p : Point) (link l : ℕ) → slice_get items p.item ≡ Some (Jump link l) → (t : Turn)
      → turn lay items p ≡ t → IsMove t
  jump_moves p link l j t et = subst IsMove (sym (turn_is lay items p (Some (Jump link l)) j) ∙ et)
      (by_label (label_from 0 items l))
    where
      by_label : (o : Option ℕ) → IsMove
          (to_item lay items o (lay.far p.item (set_reg p.regs link (lay.address (suc p.item)))) p)
      by_label None = tt
      by_label (Some n) = tt

  one_item : (input : List ℕ) (p : Point) → HasCode lay p → Never input p → Passes input p
      ⊎ Ends input p
  one_item input p code never = by_item (slice_get items p.item) refl
    where
      s : State
      s = state_at lay items p

      here : (n : ℕ) (i : Item) (t : Turn) → slice_get items p.item ≡ Some i → turn lay items p ≡ t
          → (course lay items (suc n) input p).end ≡
          (onward lay items (course lay items n) input p t).end
      here n i t e et = ap (λ c. c.end)
          (course_is items words placed [] (none_stands items words placed)
          (none_behind items words placed) n input p (Some i) t e et)

      by_turn : (i : Item) → slice_get items p.item ≡ Some i → (t : Turn) → turn lay items p ≡ t
          → GoodTurn items lay placed.rises [] (none_behind items words placed) p t → (k : ℕ)
          → Does lay items p.item i k (state_at lay items p) t → Passes input p ⊎ Ends input p
      by_turn i e (Next q) t g k d =
          let c = climbed i (lay.address (suc p.item)) (state_at lay items q) k
          (state_at lay items p) d in
          inl (record {
            left = input;
            next = q;
            code = g.code;
            never = never_next items words placed [] (none_stands items words placed)
                (none_behind items words placed) input p q t never;
            goes_on = λ n. here n i (Next q) e t;
            steps = k;
            way = c.way;
            traced = λ m. c.traced m input;
            ran = λ m. ap (λ r. r.end)
                (climbs_run i (lay.address (suc p.item)) (state_at lay items q) k
                (state_at lay items p) d m input);
            from = c.from;
            closes = λ link l j. c.closes (jump_is i p.item link l e j);
          })
      by_turn i e (Written a len bytes q) t g k d = inl (record {
        left = input;
        next = q;
        code = g.code;
        never = never_written items words placed [] (none_stands items words placed)
            (none_behind items words placed) input p q a len bytes t never;
        goes_on = λ n. here n i (Written a len bytes q) e t;
        steps = 1;
        way = lay.address p.item ∷ [];
        traced = λ m.
            let one : 1 + m ≡ suc m = omega arith in
            ap (λ n. trace n input s) one ∙ trace_more m input s ∙ ap
            (λ o. s.pc ∷ trace_after (trace m) input s o) d.1;
        ran = λ m.
            let one : 1 + m ≡ suc m = omega arith in
            ap (λ n. (run n input s).end) one ∙ ap (λ r. r.end)
            (run_more m input s ∙ ap (onward' (run m) input s) d.1);
        from = (omega arith, tt);
        closes = λ link l j. absurd (jump_moves p link l j (Written a len bytes q) t);
      })
      by_turn i e (Asked a) t g k d =
          let byte = slice_get input 0 in
          let q = behind p.item (given (state_at lay items p) byte) in
          inl (record {
            left = drop 1 input;
            next = q;
            code = (g byte).0.code;
            never = never_asked items words placed [] (none_stands items words placed)
                (none_behind items words placed) input p a t never;
            goes_on = λ n. here n i (Asked a) e t;
            steps = 1;
            way = lay.address p.item ∷ [];
            traced = λ m.
                let one : 1 + m ≡ suc m = omega arith in
                ap (λ n. trace n input s) one ∙ trace_more m input s ∙ ap
                (λ o. s.pc ∷ trace_after (trace m) input s o) d.1 ∙ ap
                (λ v. s.pc ∷ trace m (drop 1 input) v) (sym (g byte).1);
            ran = λ m.
                let one : 1 + m ≡ suc m = omega arith in
                ap (λ n. (run n input s).end) one ∙ ap (λ r. r.end)
                (run_more m input s ∙ ap (onward' (run m) input s) d.1 ∙ ap
                (run m (drop 1 input)) (sym (g byte).1));
            from = (omega arith, tt);
            closes = λ link l j. absurd (jump_moves p link l j (Asked a) t);
          })
      by_turn i e (Ended code) t g k d = inr (record {
        code = code;
        ends = d.1;
        exits = λ n. here n i (Ended code) e t;
        no_jump = λ link l j. jump_moves p link l j (Ended code) t;
      })
      by_turn i e (Trapped kind) t g k d = absurd
          (no_trap items words placed [] (none_stands items words placed)
          (none_behind items words placed) input p kind t never)

      by_item : (o : Option Item) → slice_get items p.item ≡ o → Passes input p ⊎ Ends input p
      by_item None e = absurd
          (no_trap items words placed [] (none_stands items words placed)
          (none_behind items words placed) input p _ (turn_is lay items p None e) never)
      by_item (Some i) e =
          let d = placed.does p i code.0 code.1 e in
          by_turn i e (turn lay items p) refl (turns items words placed p i e code) d.0 d.1.1

  -- ---- so many items

  record Led (n : ℕ) (input : List ℕ) (p q : Point) : Type 0 where
    pub left : List ℕ
    pub code : HasCode lay q
    pub never : Never left q
    pub goes_on : (m : ℕ) → (course lay items (n + m) input p).end ≡ (course lay items m left q).end
    pub steps : ℕ
    pub way : List ℕ
    pub traced : (m : ℕ) → trace (steps + m) input (state_at lay items p) ≡ way
        ++ trace m left (state_at lay items q)
    pub ran : (m : ℕ) → (run (steps + m) input (state_at lay items p)).end ≡
        (run m left (state_at lay items q)).end

  led : (n : ℕ) (input : List ℕ) (p : Point) → HasCode lay p → Never input p → (q : Point)
      → (course lay items n input p).end ≡ Going q → Led n input p q
  led zero input p code never q h = subst (Led 0 input p) here (record {
    left = input;
    code = code;
    never = never;
    goes_on = λ m. let e : 0 + m ≡ m = omega arith in ap (λ n. (course lay items n input p).end) e;
    steps = 0;
    way = [];
    traced = λ m. let e : 0 + m ≡ m = omega arith in ap (λ n. trace n input (state_at lay items p))
        e;
    ran = λ m. let e : 0 + m ≡ m = omega arith in ap (λ n. (run n input (state_at lay items p)).end)
        e;
  })
    where
      here : p ≡ q
      here = let e = sym (ap (λ c. c.end) (course_none lay items input p)) ∙ h in cc
  led (suc n) input p code never q h = by_item (one_item input p code never)
      (λ i t c v g. led n i t c v q g)
    where
      by_item : Passes input p ⊎ Ends input p →
          ((i : List ℕ) (t : Point) → HasCode lay t → Never i t
          → (course lay items n i t).end ≡ Going q → Led n i t q) → Led (suc n) input p q
      by_item (inl x) rest =
          let r = rest x.left x.next x.code x.never (sym (x.goes_on n) ∙ h) in record {
            left = r.left;
            code = r.code;
            never = r.never;
            goes_on = λ m. let e : suc n + m ≡ suc (n + m) = omega arith
                in ap (λ k. (course lay items k input p).end) e ∙ x.goes_on (n + m) ∙ r.goes_on m;
            steps = x.steps + r.steps;
            way = x.way ++ r.way;
            traced = λ m.
                let e : x.steps + r.steps + m ≡ x.steps + (r.steps + m) = omega arith in
                ap (λ k. trace k input (state_at lay items p)) e ∙ x.traced (r.steps + m) ∙ ap
                (λ way. x.way ++ way) (r.traced m)
                ∙ sym (append_assoc x.way r.way (trace m r.left (state_at lay items q)));
            ran = λ m.
                let e : x.steps + r.steps + m ≡ x.steps + (r.steps + m) = omega arith in
                ap (λ k. (run k input (state_at lay items p)).end) e ∙ x.ran (r.steps + m) ∙ r.ran
                m;
          }
      by_item (inr x) rest = let e = sym (x.exits n) ∙ h in cc

  -- where the machine has exited, it does not go on along the way of so many steps
  module _ (m : ℕ) (code : ℕ) (s : State) where
    abbrev Exits : List ℕ → Point → Type 0
    Exits input p = (run m input (state_at lay items p)).end ≡ Exited' code s

    ended : (input : List ℕ) (p : Point) → Exits input p
        → has_ended (run m input (state_at lay items p)).end ≡ true
    ended input p h = ap has_ended h

    exits_on : (input : List ℕ) (p : Point) → Exits input p
        → (steps : ℕ) (left : List ℕ) (q : Point) →
        ((m : ℕ) → (run (steps + m) input (state_at lay items p)).end ≡
        (run m left (state_at lay items q)).end) → Exits left q
    exits_on input p h steps left q ran =
        let e : m + steps ≡ steps + m = omega arith in
        sym (ran m) ∙ ap (λ n. (run n input (state_at lay items p)).end) (sym e) ∙ ap (λ r. r.end)
        (end_stays m steps input (state_at lay items p) (ended input p h)) ∙ h

    traced_on : (input : List ℕ) (p : Point) → Exits input p
        → (steps : ℕ) (left way : List ℕ) (q : Point)
        → ((m : ℕ) → trace (steps + m) input (state_at lay items p) ≡ way
        ++ trace m left (state_at lay items q)) → trace m input (state_at lay items p) ≡ way
        ++ trace m left (state_at lay items q)
    traced_on input p h steps left way q traced =
        let e : m + steps ≡ steps + m = omega arith in
        sym (trace_stays m steps input (state_at lay items p) (ended input p h)) ∙ ap
        (λ n. trace n input (state_at lay items p)) e ∙ traced m

    -- ---- from the stops on

    module _ (stops link a : ℕ) where
      -- for so many items the course stands at the stops, with this in the register
      abbrev Stays : ℕ → List ℕ → Point → Type 0
      Stays n input p = (k : ℕ) (q : Point) → k ≤ n → (course lay items k input p).end ≡ Going q
          → (stops ≤ q.item) × (q.regs link ≡ a)

      abbrev AtStops : List ℕ → Point → Type 0
      AtStops input p = (s.regs link ≡ a) × AllAtOrAfter (lay.address stops)
          (trace m input (state_at lay items p))

      within : (input : List ℕ) (p : Point) → Never input p → p.item < length items
      within input p never = by_item (slice_get items p.item) refl
        where
          by_item : (o : Option Item) → slice_get items p.item ≡ o → p.item < length items
          by_item None e = absurd
              (no_trap items words placed [] (none_stands items words placed)
              (none_behind items words placed) input p _ (turn_is lay items p None e) never)
          by_item (Some i) e = slice_get_within items p.item i e

      at_stops : (n : ℕ) (input : List ℕ) (p : Point) → HasCode lay p → Never input p
          → Stays n input p → (exit : ℕ) → (course lay items n input p).end ≡ Exited exit
          → Exits input p → AtStops input p
      at_stops zero input p has never stays exit e h = let f
          = sym (ap (λ c. c.end) (course_none lay items input p)) ∙ e in cc
      at_stops (suc n) input p has never stays exit e h
          = by_item (one_item input p has never) (λ i q c v t g x. at_stops n i q c v t exit g x)
        where
          here : (stops ≤ p.item) × (p.regs link ≡ a)
          here = stays 0 p (omega arith) (ap (λ c. c.end) (course_none lay items input p))

          low : lay.address stops ≤ lay.address p.item
          low = addresses_rise items lay placed.rises stops p.item here.0
              (omega (arith, within input p never))

          by_item : Passes input p ⊎ Ends input p →
              ((i : List ℕ) (q : Point) → HasCode lay q → Never i q → Stays n i q
              → (course lay items n i q).end ≡ Exited exit → Exits i q → AtStops i q)
              → AtStops input p
          by_item (inl x) rest =
              let r = rest x.left x.next x.code x.never
              (λ k q le g. stays (suc k) q (omega arith) (x.goes_on k ∙ g))
              (sym (x.goes_on n) ∙ e) (exits_on input p h x.steps x.left x.next x.ran) in
              let way = from_both (lay.address stops) x.way
              (trace m x.left (state_at lay items x.next))
              (from_lower (lay.address p.item) (lay.address stops) low x.way x.from) r.1 in (
                r.0,
                subst (AllAtOrAfter (lay.address stops))
                    (sym (traced_on input p h x.steps x.left x.way x.next x.traced)) way,
              )
          by_item (inr x) rest =
              let last = exit_step m input (state_at lay items p) x.code x.ends code s h in (
                ap (λ v. v.regs link) last.0 ∙ here.1,
                subst (AllAtOrAfter (lay.address stops)) (sym last.1) (low, tt),
              )

  -- ---- a run that has exited

  course_exits : (e : CourseEnd) (code : ℕ) → exits code ≡ finish_of e → e ≡ Exited code
  course_exits (Going q) code h = cc
  course_exits (Exited c) code h = cc
  course_exits (Stopped kind) code h = cc

  met : (m : ℕ) (input : List ℕ) (p : Point) → HasCode lay p → Never input p
      → (code : ℕ) (s : State) → (run m input (state_at lay items p)).end ≡ Exited' code s → (n : ℕ)
      × ((course lay items n input p).end ≡ Exited code)
  met m input p has never code s h =
      let g : Good items lay placed.rises [] (none_behind items words placed) p
      = record { code = has; fresh = none_fresh items words placed p.item } in
      let c = entered items words placed [] (none_stands items words placed)
      (none_behind items words placed) m m (omega arith) input p g never in (
        c.count,
        course_exits (course lay items c.count input p).end code
            (sym (ap finish_of' h) ∙ c.same.finish),
      )

  module _ (stops link code : ℕ) (m : ℕ) (s : State) (input : List ℕ) (p : Point)
      (exited : (run m input (state_at lay items p)).end ≡ Exited' code s) where
    -- a way to the jump, and from it to the stops
    joined : (before front : List ℕ) (at : ℕ) (jump behind : List ℕ) → jump ≡ front ++ at ∷ []
        → before ++ (jump ++ behind) ≡ (before ++ front) ++ at ∷ behind
    joined before front at jump behind e =
        ap (λ way. before ++ (way ++ behind)) e ∙ ap (λ way. before ++ way)
        (append_assoc front (at ∷ []) behind) ∙ sym (append_assoc before front (at ∷ behind))

    from_jump : (n : ℕ) → (course lay items n input p).end ≡ Exited code
        → (l : LeavesByLinkJump lay items stops link input p n)
        → (before : Led l.taken input p l.point) → (x : Passes before.left l.point)
        → IsLastBefore (lay.address stops) (trace m input (state_at lay items p)) (s.regs link - 4)
    from_jump n e l before x =
        let q = x.next in
        let rest = n - suc l.taken in
        let count : l.taken + suc rest ≡ n = let lt = l.within in omega arith in
        let on : (k : ℕ) → (course lay items (l.taken + suc k) input p).end ≡
        (course lay items k x.left q).end = λ k. before.goes_on (suc k) ∙ x.goes_on k in
        let stays : Stays m code s stops link (lay.address (suc l.point.item)) rest x.left q
        = λ k r le g. l.stays (l.taken + suc k) r (omega arith) (omega arith) (on k ∙ g) in
        let at_jump = exits_on m code s input p exited before.steps before.left l.point before.ran
        in
        let behind_jump = exits_on m code s before.left l.point at_jump x.steps x.left q x.ran in
        let stopped = at_stops m code s stops link (lay.address (suc l.point.item)) rest x.left q
        x.code x.never stays code
        (sym (on rest) ∙ ap (λ k. (course lay items k input p).end) count ∙ e) behind_jump in
        let first = (stays 0 q (omega arith) (ap (λ c. c.end) (course_none lay items x.left q))).0
        in
        let top = within m code s stops link (lay.address (suc l.point.item)) x.left q x.never in
        let closed = x.closes link l.target l.jumps in
        let below = addresses_rise items lay placed.rises (suc l.point.item) stops
        (let b = l.before in omega arith) (omega arith) in
        let at_end = closed.at_end in
        let linked = stopped.0 in
        let at : s.regs link - 4 ≡ closed.at = omega arith in
        let behind = trace m x.left (state_at lay items q) in
        let traced = traced_on m code s input p exited before.steps before.left before.way l.point
        before.traced
        ∙ ap (λ way. before.way ++ way)
        (traced_on m code s before.left l.point at_jump x.steps x.left x.way q x.traced) in
        subst (IsLastBefore (lay.address stops) (trace m input (state_at lay items p))) (sym at)
        (record {
          before = before.way ++ closed.front;
          behind = behind;
          splits = traced ∙ joined before.way closed.front closed.at x.way behind closed.splits;
          below = omega arith;
          past = stopped.1;
        })

    left_by : HasCode lay p → Never input p →
        ((k : ℕ) → (course lay items k input p).end ≡ Exited code
        → LeavesByLinkJump lay items stops link input p k)
        → IsLastBefore (lay.address stops) (trace m input (state_at lay items p)) (s.regs link - 4)
    left_by has never leaves =
        let n = met m input p has never code s exited in
        let l = leaves n.0 n.1 in
        let before = led l.taken input p has never l.point l.stood in
        by_item n l before (one_item before.left l.point before.code before.never)
      where
        by_item : (n : (n : ℕ) × ((course lay items n input p).end ≡ Exited code))
            → (l : LeavesByLinkJump lay items stops link input p n.0)
            → (before : Led l.taken input p l.point) → Passes before.left l.point
            ⊎ Ends before.left l.point → IsLastBefore (lay.address stops)
            (trace m input (state_at lay items p)) (s.regs link - 4)
        by_item n l before (inl x) = from_jump n.0 n.1 l before x
        by_item n l before (inr x) = absurd (x.no_jump link l.target l.jumps)

  -- where the course exits, the machine stands with the same registers
  register_kept : (exit register value : ℕ) (m : ℕ) (code : ℕ) (s : State) (input : List ℕ)
      (p : Point) → (run m input (state_at lay items p)).end ≡ Exited' code s → HasCode lay p
      → Never input p → ExitsWithRegister lay items input p exit register value
      → s.regs register ≡ value
  register_kept exit register value m code s input p exited has never x =
      let before = led x.taken input p has never x.point x.stood in
      let there = exits_on m code s input p exited before.steps before.left x.point before.ran in
      by_item before there (one_item before.left x.point before.code before.never)
    where
      by_item : (before : Led x.taken input p x.point) → Exits m code s before.left x.point
          → Passes before.left x.point ⊎ Ends before.left x.point → s.regs register ≡ value
      by_item before there (inl y) =
          let count : x.taken + 1 ≡ suc x.taken = omega arith in
          let going = sym (ap (λ c. c.end) (course_none lay items y.left y.next)) ∙ sym
          (y.goes_on 0)
          ∙ sym (before.goes_on 1) ∙ ap (λ n. (course lay items n input p).end) count ∙ x.exits in
          cc
      by_item before there (inr y) =
          let last = exit_step m before.left (state_at lay items x.point) y.code y.ends code s there
          in
          ap (λ v. v.regs register) last.0 ∙ x.has

-- ---- the laws

pub exit_keeps : ExitKeepsRegisters
exit_keeps items words placed p i exit register value code has never x m s exited =
    register_kept items words placed exit register value m code s i p exited has never x

pub items_leave : LastStepIsAtLinkJump
items_leave items words placed p i stops link code has never leaves m s exited =
    left_by items words placed stops link code m s i p exited has never leaves

pub stops_are_behind : ProceduresPrecedeStops
stops_are_behind items words placed begins stand flows a is =
    let lay = placed.lay in
    let b = begin_at items lay placed.rises begins stand flows.instruction_behind a is in
    let begin = ap (begins_procedure begins) b.here ∙ b.is in
    let next = flows.instruction_behind b.item begin in
    let before = flows.procedures_before b.item begin in
    let top = slice_get_within items flows.stops (Label flows.first_stop.0) flows.first_stop.1 in
    let rise = placed.rises.rises (suc b.item) next in
    let label = placed.rises.labels b.item b.label b.here in
    let up = addresses_rise items lay placed.rises (suc (suc b.item)) flows.stops
    (apart flows b.item next before) (omega arith) in
    omega (arith, b.at)
  where
    apart : (flows : HasStructuredFlow begins items) (n : ℕ)
        → is_instruction (slice_get items (suc n)) ≡ true → n < flows.stops
        → suc (suc n) ≤ flows.stops
    apart flows n next before = elim (cases_eq (suc n) flows.stops) [
      | inl same ↦ absurd
          (true≢false
          (sym next ∙ ap is_instruction (ap (λ k. slice_get items k) same ∙ flows.first_stop.1)))
      | inr other ↦ omega arith
    ]

-- the items from one on begin with it
drop_there : (items : List Item) (n : ℕ) (i : Item) → slice_get items n ≡ Some i
    → drop n items ≡ i ∷ drop (suc n) items
drop_there [] n i e = absurd (cc)
drop_there (j ∷ items) zero i e = ap (λ x. x ∷ items) (same_Some _ _ e)
drop_there (j ∷ items) (suc n) i e = drop_there items n i e

-- labels and plain instructions take just the words that they count
stops_take : (items : List Item) (layout : Layout) → AddressesRise items layout → (from : ℕ)
    → ((n : ℕ) (i : Item) → from ≤ n → slice_get items n ≡ Some i → IsStopItem i) → (k n : ℕ)
    → from ≤ n → n + k ≡ length items → layout.address n + 4 * size_of (drop n items) ≡
    layout.address (length items)
stops_take items layout rises from all zero n le e =
    let none : size_of (drop n items) ≡ 0 = ap size_of (drop_past items n (omega arith)) in
    let same : layout.address n ≡ layout.address (length items)
    = ap (λ k. layout.address k) (omega arith) in
    omega arith
stops_take items layout rises from all (suc k) n le e =
    let x = there items n (omega arith) in
    by_item x.0 x.1 (all n x.0 le x.1)
    (stops_take items layout rises from all k (suc n) (omega arith) (omega arith))
  where
    by_item : (i : Item) → slice_get items n ≡ Some i → IsStopItem i
        → layout.address (suc n) + 4 * size_of (drop (suc n) items) ≡ layout.address (length items)
        → layout.address n + 4 * size_of (drop n items) ≡ layout.address (length items)
    by_item (Label l) at stop rest =
        let sizes : size_of (drop n items) ≡ 0 + size_of (drop (suc n) items)
        = ap size_of (drop_there items n (Label l) at) in
        let none = rises.labels n l at in
        omega arith
    by_item (Plain i) at stop rest =
        let sizes : size_of (drop n items) ≡ 1 + size_of (drop (suc n) items)
        = ap size_of (drop_there items n (Plain i) at) in
        let least = rises.rises n (ap is_instruction at) in
        let most : layout.address (suc n) ≤ layout.address n + 4 * 1 = rises.sizes n (Plain i) at in
        omega arith
    by_item (Branch c a b l) at stop rest = absurd stop
    by_item (Jump r l) at stop rest = absurd stop

pub stops_are_last : StopsAreLast
stops_are_last items words placed begins flows =
    let top = slice_get_within items flows.stops (Label flows.first_stop.0) flows.first_stop.1 in
    stops_take items placed.lay placed.rises flows.stops flows.all_stop (length items - flows.stops)
    flows.stops (omega arith) (omega arith) ∙ placed.rises.last
