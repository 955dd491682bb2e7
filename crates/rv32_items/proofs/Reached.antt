-- After so many items there is a moment of the machine that shows the same.
use Rattle.std.proofs.Common.{◌≡◌, ℕ, zero, suc, ◌+◌, ◌*◌, ◌≤◌, Bool, true, false, List, [], ◌++◌, drop, Option, Some, None, slice_get, refl, sym, ap, ◌∙◌, subst, arith}
use Rattle.std.specs.Prelude.{if◌then◌else◌}
use Rattle.std.proofs.lemmas.Bool.{true≢false}
use Rattle.rv32_machine.specs.Arithmetic.{is_taken}
use Rattle.rv32_machine.specs.Steps.{State, given, reg}
use Rattle.rv32_machine.specs.Runs.{Run, Exited as Exited', after as after', onward as onward', stands as stands', run}
use Rattle.rv32_machine.proofs.Composed.{run_none, run_more}
use Rattle.rv32_steps.specs.Trace.{is_one_of}
use Rattle.rv32_items.specs.declared.Item.{Item}
use Rattle.rv32_items.specs.declared.Item.TheVariants.{Label, Plain, Branch, Jump}
use Rattle.rv32_items.specs.Course.{Layout, Point, Course, Turn, Next, Written, Asked, Ended, Trapped, turn, turn_of, state_at, behind, kind_of, label_of, Going, Exited, stands, after, course, NeverTrapsOn}
use Rattle.rv32_items.specs.Placed.{is_instruction, times, Does, steps, Placed}
use Rattle.rv32_items.specs.Flows.{begins_procedure}
use Rattle.rv32_items.specs.Laws.{HasCode, MachineMatchesItems, ItemsAreReached}
use Rattle.rv32_items.proofs.CodeAfterTurn.{turn_is, Good, GoodTurn, turn_good, Fresh}
use Rattle.rv32_items.proofs.Moments.{Same, same_seen, course_none, climbs_run}
use Rattle.rv32_items.proofs.Enters.{entered, course_is, never_next, never_written, never_asked, no_trap}

-- nothing begins where there are no procedures
none_begins : (o : Option Item) → begins_procedure [] o ≡ false
none_begins None = refl
none_begins (Some (Label l)) = refl
none_begins (Some (Plain i)) = refl
none_begins (Some (Branch c a b l)) = refl
none_begins (Some (Jump k l)) = refl

module _ (items : List Item) (words : List ℕ) (placed : Placed items words) where
  abbrev lay : Layout
  lay = placed.lay

  pub none_stands : (b : ℕ) → is_one_of [] b ≡ true → times b items ≡ 1
  none_stands b h = absurd (true≢false (sym h))

  pub none_behind : (n : ℕ) → begins_procedure [] (slice_get items n) ≡ true
      → is_instruction (slice_get items (suc n)) ≡ true
  none_behind n h = absurd (true≢false (sym h ∙ none_begins (slice_get items n)))

  pub none_fresh : (n : ℕ) → Fresh [] items n
  none_fresh n q h = none_begins (slice_get items q)

  record ReachedAt (n : ℕ) (input : List ℕ) (p : Point) : Type 0 where
    pub count : ℕ
    pub few : count ≤ 3 * n
    pub same : Same (run count input (state_at lay items p)) (course lay items n input p)

  by_steps : (n : ℕ) (input : List ℕ) (p : Point) (m : ℕ) (r : Run) (c : Course) → m ≤ 3 * n
      → run m input (state_at lay items p) ≡ r → course lay items n input p ≡ c → Same r c
      → ReachedAt n input p
  by_steps n input p m r c few er ec h = record {
    count = m;
    few = few;
    same = subst (λ v. Same v (course lay items n input p)) (sym er)
        (subst (λ v. Same r v) (sym ec) h);
  }

  steps_le : (s : State) (i : Item) → steps s i ≤ 3
  steps_le s (Label l) = omega arith
  steps_le s (Plain i) = omega arith
  steps_le s (Jump k l) = omega arith
  steps_le s (Branch cond left right l) = go (is_taken (kind_of cond) (reg s left) (reg s right))
    where
      go : (b : Bool) → (if b then 3 else 1) ≤ 3
      go true = omega arith
      go false = omega arith

  -- what holds behind a turn, be it a label's
  pub turns : (p : Point) (i : Item) → slice_get items p.item ≡ Some i → HasCode lay p
      → GoodTurn items lay placed.rises [] none_behind p (turn lay items p)
  turns p i e code = subst (λ t. GoodTurn items lay placed.rises [] none_behind p t)
      (sym (turn_is lay items p (Some i) e)) (by_item i e)
    where
      by_item : (i : Item) → slice_get items p.item ≡ Some i
          → GoodTurn items lay placed.rises [] none_behind p (turn_of lay items p (Some i))
      by_item (Label l) e = record { code = code; fresh = none_fresh (suc p.item) }
      by_item (Plain i) e = turn_good items lay placed.rises [] none_behind p code (Plain i) e refl
      by_item (Branch c a b l) e = turn_good items lay placed.rises [] none_behind p code
          (Branch c a b l) e refl
      by_item (Jump k l) e = turn_good items lay placed.rises [] none_behind p code (Jump k l) e
          refl

  reached : (n : ℕ) (input : List ℕ) (p : Point) → HasCode lay p → NeverTrapsOn lay items input p
      → ReachedAt n input p
  reached zero input p code never =
      by_steps 0 input p 0 (stands' input _) (stands input (Going p)) (omega arith)
      (run_none input (state_at lay items p)) (course_none lay items input p)
      (record { out = refl; left = refl; finish = refl })
  reached (suc n) input p code never = by_item (slice_get items p.item) refl
      (λ i q c v. reached n i q c v)
    where
      by_turn :
          ((input : List ℕ) (p : Point) → HasCode lay p → NeverTrapsOn lay items input p
          → ReachedAt n input p) → (i : Item) → slice_get items p.item ≡ Some i → (t : Turn)
          → turn lay items p ≡ t → GoodTurn items lay placed.rises [] none_behind p t → (k : ℕ)
          → k ≤ 3 → Does lay items p.item i k (state_at lay items p) t → ReachedAt (suc n) input p
      by_turn rest i e (Next q) t g k few d =
          let h = rest input q g.code
          (never_next items words placed [] none_stands none_behind input p q t never) in
          by_steps (suc n) input p (k + h.count) (run h.count input (state_at lay items q))
          (after [] (label_of (Some i)) (course lay items n input q)) (omega (arith, h.few))
          (climbs_run i (lay.address (suc p.item)) (state_at lay items q) k
          (state_at lay items p) d h.count input)
          (course_is items words placed [] none_stands none_behind n input p (Some i) (Next q) e
          t) (record { out = h.same.out; left = h.same.left; finish = h.same.finish })
      by_turn rest i e (Written a len bytes q) t g k few d =
          let h = rest input q g.code
          (never_written items words placed [] none_stands none_behind input p q a len bytes t
          never) in
          by_steps (suc n) input p (suc h.count)
          (after' bytes (run h.count input (state_at lay items q)))
          (after [] (label_of (Some i)) (after bytes [] (course lay items n input q)))
          (omega (arith, h.few))
          (run_more h.count input (state_at lay items p) ∙ ap
          (onward' (run h.count) input (state_at lay items p)) d.1)
          (course_is items words placed [] none_stands none_behind n input p (Some i)
          (Written a len bytes q) e t)
          (record {
            out = ap (λ o. bytes ++ o) h.same.out;
            left = h.same.left;
            finish
                = h.same.finish;
          })
      by_turn rest i e (Asked a) t g k few d =
          let byte = slice_get input 0 in
          let left = drop 1 input in
          let q = behind p.item (given (state_at lay items p) byte) in
          let h = rest left q (g byte).0.code
          (never_asked items words placed [] none_stands none_behind input p a t never) in
          by_steps (suc n) input p (suc h.count) (run h.count left (state_at lay items q))
          (after [] (label_of (Some i)) (course lay items n left q)) (omega (arith, h.few))
          (run_more h.count input (state_at lay items p) ∙ ap
          (onward' (run h.count) input (state_at lay items p)) d.1 ∙ ap (run h.count left)
          (sym (g byte).1))
          (course_is items words placed [] none_stands none_behind n input p (Some i) (Asked a)
          e t) (record { out = h.same.out; left = h.same.left; finish = h.same.finish })
      by_turn rest i e (Ended code) t g k few d =
          by_steps (suc n) input p 1 (stands' input (Exited' code (state_at lay items p)))
          (after [] (label_of (Some i)) (stands input (Exited code))) (omega arith)
          (run_more 0 input (state_at lay items p) ∙ ap
          (onward' (run 0) input (state_at lay items p)) d.1)
          (course_is items words placed [] none_stands none_behind n input p (Some i)
          (Ended code) e t) (record { out = refl; left = refl; finish = refl })
      by_turn rest i e (Trapped kind) t g k few d = absurd
          (no_trap items words placed [] none_stands none_behind input p kind t never)

      by_item : (o : Option Item) → slice_get items p.item ≡ o
          → ((input : List ℕ) (p : Point) → HasCode lay p → NeverTrapsOn lay items input p
          → ReachedAt n input p) → ReachedAt (suc n) input p
      by_item None e rest = absurd
          (no_trap items words placed [] none_stands none_behind input p _
          (turn_is lay items p None e) never)
      by_item (Some i) e rest =
          let d = placed.does p i code.0 code.1 e in
          let few = steps_le (state_at lay items p) i in
          let most = d.1.0 in
          by_turn rest i e (turn lay items p) refl (turns p i e code) d.0 (omega arith) d.1.1

-- ---- the laws

pub items_are_reached : ItemsAreReached
items_are_reached items words placed p i code never n =
    let h = reached items words placed n i p code never in
    (h.count, (h.few, same_seen placed.lay items p i h.count n h.same))

pub items_show : MachineMatchesItems
items_show items words placed p code never = record {
  there = λ i n. let h = items_are_reached items words placed p i code (never i) n in (h.0, h.1.1);
  back = λ i m.
      let g : Good items placed.lay placed.rises [] (none_behind items words placed) p
      = record { code = code; fresh = none_fresh items words placed p.item } in
      let h = entered items words placed [] (none_stands items words placed)
      (none_behind items words placed) m m (omega arith) i p g (never i) in
      (h.count, same_seen placed.lay items p i m h.count h.same);
}
