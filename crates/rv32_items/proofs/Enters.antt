-- The machine shows what the items show, and enters what the course passes.
use Rattle.std.proofs.Common.{◌≡◌, ℕ, zero, suc, ◌+◌, ◌-◌, ◌<◌, ◌≤◌, Bool, true, false, List, [], ◌∷◌, ◌++◌, length, drop, Option, Some, None, slice_get, inl, inr, refl, sym, ap, ◌∙◌, subst, arith}
use Rattle.std.proofs.lemmas.Bool.{cases_lt, true≢false}
use Rattle.std.proofs.lemmas.Option.{slice_get_within}
use Rattle.rv32_machine.specs.declared.machine.TrapKind.{TrapKind}
use Rattle.rv32_machine.specs.Steps.{State, Written as Written', Asked as Asked', Ended as Ended', step, given}
use Rattle.rv32_machine.specs.Runs.{Exited as Exited', after as after', onward as onward', stands as stands', run}
use Rattle.rv32_machine.proofs.Composed.{run_none, run_more}
use Rattle.rv32_steps.specs.Leads.{at}
use Rattle.rv32_steps.specs.Trace.{trace, trace_after, procedures_at, procedure_from, is_one_of}
use Rattle.rv32_items.specs.declared.Item.{Item}
use Rattle.rv32_items.specs.declared.Item.TheVariants.{Label, Plain, Branch, Jump}
use Rattle.rv32_items.specs.Course.{Layout, Point, Course, Turn, Next, Written, Asked, Ended, Trapped, turn, state_at, behind, label_of, Going, Exited, stands, after, onward, course, NeverTrapsOn}
use Rattle.rv32_items.specs.Placed.{is_instruction, times, StepsAtRisingPcs, Does, Placed}
use Rattle.rv32_items.specs.Flows.{begins_procedure}
use Rattle.rv32_items.specs.Laws.{HasCode, addresses_of, MachineEntersLabels}
use Rattle.rv32_items.proofs.Addresses.{none_within, none_at, begin_is, not_one}
use Rattle.rv32_items.proofs.CodeAfterTurn.{turn_is, Fresh, Good, GoodTurn, turn_good, fresh_behind}
use Rattle.rv32_items.proofs.Moments.{Same, same_seen, course_none, course_more, trace_none, trace_more, climbs_run, climbs_part, climbs_trace, climbs_trace_part}

-- behind a label
abbrev pub next_point : Point → Point
next_point p = record { regs = p.regs; item = suc p.item; memory = p.memory }

label_of_instruction : (i : Item) → is_instruction (Some i) ≡ true → label_of (Some i) ≡ []
label_of_instruction (Label l) h = absurd (true≢false (sym h))
label_of_instruction (Plain i) h = refl
label_of_instruction (Branch c a b l) h = refl
label_of_instruction (Jump k l) h = refl

module _ (items : List Item) (words : List ℕ) (placed : Placed items words) (begins : List ℕ)
    (stand : (b : ℕ) → is_one_of begins b ≡ true → times b items ≡ 1)
    (instruction_behind : (n : ℕ) → begins_procedure begins (slice_get items n) ≡ true
    → is_instruction (slice_get items (suc n)) ≡ true) where
  abbrev lay : Layout
  lay = placed.lay

  abbrev addresses : List ℕ
  addresses = addresses_of lay items begins

  abbrev good : Point → Type 0
  good p = Good items lay placed.rises begins instruction_behind p

  -- after m steps from s: so many items from p show the same, and what was entered is this and then
  -- what the course passes
  pub record Entered (input : List ℕ) (m : ℕ) (s : State) (p : Point) (first : List ℕ)
      : Type 0 where
    pub count : ℕ
    pub same : Same (run m input s) (course lay items count input p)
    pub passes : procedures_at addresses (trace m input s) ≡ first
        ++ procedures_at begins (course lay items count input p).passed

  -- ---- a course by its turns

  pub course_is : (n : ℕ) (input : List ℕ) (p : Point) (o : Option Item) (t : Turn)
      → slice_get items p.item ≡ o → turn lay items p ≡ t
      → course lay items (suc n) input p ≡ after [] (label_of o)
      (onward lay items (course lay items n) input p t)
  course_is n input p o t e et =
      course_more lay items n input p ∙
      (λ k. after [] (label_of (e k)) (onward lay items (course lay items n) input p (et k)))

  pub never_next : (input : List ℕ) (p q : Point) → turn lay items p ≡ Next q
      → NeverTrapsOn lay items input p → NeverTrapsOn lay items input q
  never_next input p q t never n kind h =
      never (suc n) kind
      (ap (λ c. c.end) (course_is n input p (slice_get items p.item) (Next q) refl t) ∙ h)

  pub never_written : (input : List ℕ) (p q : Point) (a len : ℕ) (bytes : List ℕ)
      → turn lay items p ≡ Written a len bytes q → NeverTrapsOn lay items input p
      → NeverTrapsOn lay items input q
  never_written input p q a len bytes t never n kind h =
      never (suc n) kind
      (ap (λ c. c.end)
      (course_is n input p (slice_get items p.item) (Written a len bytes q) refl t) ∙ h)

  pub never_asked : (input : List ℕ) (p : Point) (a : ℕ) → turn lay items p ≡ Asked a
      → NeverTrapsOn lay items input p → NeverTrapsOn lay items (drop 1 input)
      (behind p.item (given (state_at lay items p) (slice_get input 0)))
  never_asked input p a t never n kind h =
      never (suc n) kind
      (ap (λ c. c.end) (course_is n input p (slice_get items p.item) (Asked a) refl t) ∙ h)

  pub no_trap : (input : List ℕ) (p : Point) (kind : TrapKind) → turn lay items p ≡ Trapped kind
      → NeverTrapsOn lay items input p → ⊥
  no_trap input p kind t never =
      never 1 kind
      (ap (λ c. c.end) (course_is 0 input p (slice_get items p.item) (Trapped kind) refl t))

  -- ---- an instruction

  -- what is shown holds after so many steps
  abbrev Shown : ℕ → Type 0
  Shown b = (m : ℕ) → m ≤ b → (input : List ℕ) (p : Point) → good p → NeverTrapsOn lay items input p
      → Entered input m (state_at lay items p) p []

  abbrev by_course : (input : List ℕ) (m : ℕ) (s : State) (p : Point) (first : List ℕ) (n : ℕ)
      (c : Course) → course lay items n input p ≡ c → Same (run m input s) c
      → procedures_at addresses (trace m input s) ≡ first ++ procedures_at begins c.passed
      → Entered input m s p first
  by_course input m s p first n c e same passes = record {
    count = n;
    same = subst (λ c. Same (run m input s) c) (sym e) same;
    passes = passes ∙ ap (λ c. first ++ procedures_at begins c.passed) (sym e);
  }

  module _ (b : ℕ) (shown : Shown b) (input : List ℕ) (p : Point) (i : Item)
      (e : slice_get items p.item ≡ Some i) (is : is_instruction (Some i) ≡ true)
      (never : NeverTrapsOn lay items input p) where
    abbrev s : State
    s = state_at lay items p

    abbrev first : List ℕ
    first = procedure_from 0 addresses (lay.address p.item)

    here : (n : ℕ) (t : Turn) → turn lay items p ≡ t
        → course lay items (suc n) input p ≡ after [] []
        (onward lay items (course lay items n) input p t)
    here n t et = course_is n input p (Some i) t e et ∙ ap
        (λ l. after [] l (onward lay items (course lay items n) input p t))
        (label_of_instruction i is)

    within : (c : ℕ) → s.pc < c → c < lay.address (suc p.item) → is_one_of addresses c ≡ false
    within = none_within items lay placed.rises begins stand instruction_behind p.item i e

    climbs : (q : Point) → turn lay items p ≡ Next q → good q → (k : ℕ)
        → StepsAtRisingPcs i k (lay.address (suc p.item)) s (state_at lay items q) → (m : ℕ) → m ≤ b
        → Entered input (suc m) s p first
    climbs q t g zero h m le = absurd (true≢false (sym is ∙ h.0))
    climbs q t g (suc k) h m le = elim (cases_lt m k) [
      | inl part ↦
          let u = climbs_part i (lay.address (suc p.item)) (state_at lay items q) k s h (suc m)
          (omega arith) input in
          let same : Same (run (suc m) input s) (stands input (Going p))
          = subst (λ r. Same r (stands input (Going p))) (sym u.1)
          (record { out = refl; left = refl; finish = refl }) in
          by_course input (suc m) s p first 0 (stands input (Going p))
          (course_none lay items input p) same
          (climbs_trace_part i (lay.address (suc p.item)) (state_at lay items q) addresses k s h
          within m (omega arith) input)
      | inr whole ↦
          let r = m - k in
          let count : suc k + r ≡ suc m = omega arith in
          let next = shown r (omega arith) input q g (never_next input p q t never) in
          let ran : run (suc m) input s ≡ run r input (state_at lay items q)
          = ap (λ n. run n input s) (sym count) ∙ climbs_run i (lay.address (suc p.item))
          (state_at lay items q) (suc k) s h r input in
          let traced = ap (λ n. procedures_at addresses (trace n input s)) (sym count) ∙
          climbs_trace i (lay.address (suc p.item)) (state_at lay items q) addresses k s h
          within r input in
          let c = course lay items next.count input q in
          by_course input (suc m) s p first (suc next.count) (after [] [] c)
          (here next.count (Next q) t)
          (subst (λ r. Same r (after [] [] c)) (sym ran)
          (record { out = next.same.out; left = next.same.left; finish = next.same.finish }))
          (traced ∙ ap (λ way. first ++ way) next.passes)
    ]

    writes : (q : Point) (a len : ℕ) (bytes : List ℕ) → turn lay items p ≡ Written a len bytes q
        → good q → step s ≡ Written' a len bytes (state_at lay items q) → (m : ℕ) → m ≤ b
        → Entered input (suc m) s p first
    writes q a len bytes t g h m le =
        let next = shown m le input q g (never_written input p q a len bytes t never) in
        let c = course lay items next.count input q in
        let ran : run (suc m) input s ≡ after' bytes (run m input (state_at lay items q))
        = run_more m input s ∙ ap (onward' (run m) input s) h in
        let traced = ap (procedures_at addresses) (trace_more m input s) ∙ ap
        (λ o. first ++ procedures_at addresses (trace_after (trace m) input s o)) h in
        by_course input (suc m) s p first (suc next.count) (after [] [] (after bytes [] c))
        (here next.count (Written a len bytes q) t)
        (subst (λ r. Same r (after [] [] (after bytes [] c))) (sym ran)
        (record {
          out = ap (λ o. bytes ++ o) next.same.out;
          left = next.same.left;
          finish
              = next.same.finish;
        }))
        (traced ∙ ap (λ way. first ++ way) next.passes)

    reads : (a : ℕ) → turn lay items p ≡ Asked a → GoodTurn items lay placed.rises begins
        instruction_behind p (Asked a) → step s ≡ Asked' a → (m : ℕ) → m ≤ b
        → Entered input (suc m) s p first
    reads a t g h m le =
        let byte = slice_get input 0 in
        let left = drop 1 input in
        let q = behind p.item (given s byte) in
        let after_it = g byte in
        let next = shown m le left q after_it.0 (never_asked input p a t never) in
        let c = course lay items next.count left q in
        let ran : run (suc m) input s ≡ run m left (state_at lay items q)
        = run_more m input s ∙ ap (onward' (run m) input s) h ∙ ap (run m left) (sym after_it.1)
        in
        let traced = ap (procedures_at addresses) (trace_more m input s) ∙ ap
        (λ o. first ++ procedures_at addresses (trace_after (trace m) input s o)) h ∙ ap
        (λ v. first ++ procedures_at addresses (trace m left v)) (sym after_it.1) in
        by_course input (suc m) s p first (suc next.count) (after [] [] c)
        (here next.count (Asked a) t)
        (subst (λ r. Same r (after [] [] c)) (sym ran)
        (record { out = next.same.out; left = next.same.left; finish = next.same.finish }))
        (traced ∙ ap (λ way. first ++ way) next.passes)

    ends : (code : ℕ) → turn lay items p ≡ Ended code → step s ≡ Ended' code → (m : ℕ)
        → Entered input (suc m) s p first
    ends code t h m =
        let ran : run (suc m) input s ≡ stands' input (Exited' code s)
        = run_more m input s ∙ ap (onward' (run m) input s) h in
        let traced : procedures_at addresses (trace (suc m) input s) ≡ first ++ []
        = ap (procedures_at addresses) (trace_more m input s) ∙ ap
        (λ o. first ++ procedures_at addresses (trace_after (trace m) input s o)) h in
        by_course input (suc m) s p first 1 (after [] [] (stands input (Exited code)))
        (here 0 (Ended code) t)
        (subst (λ r. Same r (after [] [] (stands input (Exited code)))) (sym ran)
        (record { out = refl; left = refl; finish = refl }))
        traced

    instruction : HasCode lay p → (m : ℕ) → m ≤ b → Entered input (suc m) s p first
    instruction code m le =
        let t = turn_is lay items p (Some i) e in
        let g = turn_good items lay placed.rises begins instruction_behind p code i e is in
        let d = placed.does p i code.0 code.1 e in
        by_turn (turn lay items p) refl
        (subst (λ t. GoodTurn items lay placed.rises begins instruction_behind p t) (sym t) g)
        d.0 d.1.1
      where
        by_turn : (t : Turn) → turn lay items p ≡ t
            → GoodTurn items lay placed.rises begins instruction_behind p t → (k : ℕ)
            → Does lay items p.item i k s t → Entered input (suc m) s p first
        by_turn (Next q) t g k d = climbs q t g k d m le
        by_turn (Written a len bytes q) t g k d = writes q a len bytes t g d.1 m le
        by_turn (Asked a) t g k d = reads a t g d.1 m le
        by_turn (Ended code) t g k d = ends code t d.1 m
        by_turn (Trapped kind) t g k d = absurd (no_trap input p kind t never)

  -- ---- labels

  label_passed : (input : List ℕ) (p : Point) (l m : ℕ) (more : List ℕ)
      → slice_get items p.item ≡ Some (Label l) → Entered input m
      (state_at lay items (next_point p)) (next_point p) more → more ≡ procedure_from 0 begins l
      → Entered input m (state_at lay items p) p []
  label_passed input p l m more e h is =
      let q = next_point p in
      let c = course lay items h.count input q in
      let stays : state_at lay items q ≡ state_at lay items p
      = ap (λ a. at p.regs a p.memory) (placed.rises.labels p.item l e) in
      let moved = subst
      (λ v. Same (run m input v) c ×
      (procedures_at addresses (trace m input v) ≡ more ++ procedures_at begins c.passed)) stays
      (h.same, h.passes) in
      by_course input m (state_at lay items p) p [] (suc h.count) (after [] (l ∷ []) c)
      (course_is h.count input p (Some (Label l)) (Next q) e
      (turn_is lay items p (Some (Label l)) e))
      (record { out = moved.0.out; left = moved.0.left; finish = moved.0.finish })
      (moved.1 ∙ ap (λ f. f ++ procedures_at begins c.passed) is)

  -- the item behind the label at which something begins
  pub behind_begin : (n : ℕ) → begins_procedure begins (slice_get items n) ≡ true → (i : Item)
      × ((slice_get items (suc n) ≡ Some i) × (is_instruction (Some i) ≡ true))
  behind_begin n h = go (slice_get items (suc n)) refl (instruction_behind n h)
    where
      go : (o : Option Item) → slice_get items (suc n) ≡ o → is_instruction o ≡ true → (i : Item)
          × ((slice_get items (suc n) ≡ Some i) × (is_instruction (Some i) ≡ true))
      go None e is = absurd (true≢false (sym is))
      go (Some i) e is = (i, (e, is))

  module _ (b : ℕ) (shown : Shown b) (m : ℕ) (le : m ≤ b) (input : List ℕ) where
    at_instruction : (p : Point) (i : Item) → slice_get items p.item ≡ Some i
        → is_instruction (Some i) ≡ true → good p → NeverTrapsOn lay items input p
        → Entered input (suc m) (state_at lay items p) p []
    at_instruction p i e is g never =
        let h = instruction b shown input p i e is never g.code m le in
        let none = not_one 0 addresses (lay.address p.item)
        (none_at items lay placed.rises begins stand instruction_behind p.item i e is g.fresh)
        in
        subst (λ f. Entered input (suc m) (state_at lay items p) p f) none h

    -- past labels, of which there are so many at most
    past_labels : (d : ℕ) (p : Point) → length items ≤ p.item + d → good p
        → NeverTrapsOn lay items input p → (o : Option Item) → slice_get items p.item ≡ o
        → Entered input (suc m) (state_at lay items p) p []
    past_labels d p top g never None e = absurd
        (no_trap input p _ (turn_is lay items p None e) never)
    past_labels d p top g never (Some (Plain i)) e = at_instruction p (Plain i) e refl g never
    past_labels d p top g never (Some (Branch c x y l)) e
        = at_instruction p (Branch c x y l) e refl g never
    past_labels d p top g never (Some (Jump k l)) e = at_instruction p (Jump k l) e refl g never
    past_labels zero p top g never (Some (Label l)) e =
        let lt = slice_get_within items p.item (Label l) e in absurd (omega arith)
    past_labels (suc d) p top g never (Some (Label l)) e =
        by_begin (is_one_of begins l) refl
        (λ fresh. past_labels d q (omega arith) (record { code = g.code; fresh = fresh }) next
        (slice_get items q.item) refl)
      where
        q : Point
        q = next_point p

        next : NeverTrapsOn lay items input (next_point p)
        next = never_next input p (next_point p) (turn_is lay items p (Some (Label l)) e) never

        by_begin : (t : Bool) → is_one_of begins l ≡ t
            → (Fresh begins items (suc p.item) → Entered input (suc m)
            (state_at lay items (next_point p)) (next_point p) [])
            → Entered input (suc m) (state_at lay items p) p []
        by_begin false n rest =
            label_passed input p l (suc m) [] e
            (rest (fresh_behind items lay placed.rises begins instruction_behind p.item
            (Some (Label l)) e n)) (sym (not_one 0 begins l n))
        by_begin true y rest =
            let i = behind_begin p.item (ap (begins_procedure begins) e ∙ y) in
            let h = instruction b shown input (next_point p) i.0 i.1.0 i.1.1 next g.code m le in
            let same = ap (λ a. procedure_from 0 addresses a) (placed.rises.labels p.item l e) ∙
            begin_is items lay placed.rises begins stand instruction_behind p.item l e y in
            label_passed input p l (suc m) (procedure_from 0 addresses (lay.address (suc p.item))) e
            h same

  started : (input : List ℕ) (p : Point) → Entered input 0 (state_at lay items p) p []
  started input p =
      let s = state_at lay items p in
      let same : Same (run 0 input s) (stands input (Going p))
      = subst (λ r. Same r (stands input (Going p))) (sym (run_none input s))
      (record { out = refl; left = refl; finish = refl }) in
      by_course input 0 s p [] 0 (stands input (Going p)) (course_none lay items input p) same
      (ap (procedures_at addresses) (trace_none input s))

  pub entered : (b : ℕ) → Shown b
  entered zero m le input p g never =
      let none : 0 ≡ m = omega arith in
      subst (λ n. Entered input n (state_at lay items p) p []) none (started input p)
  entered (suc b) zero le input p g never = started input p
  entered (suc b) (suc m) le input p g never =
      past_labels b (entered b) m (omega arith) input (length items) p (omega arith) g never
      (slice_get items p.item) refl

-- ---- the law

pub first_is_fresh : (begins : List ℕ) (items : List Item) (n : ℕ) → n ≡ 0 → Fresh begins items n
first_is_fresh begins items n z q h = absurd (omega arith)

pub items_enter : MachineEntersLabels
items_enter items words placed p i begins code never first stand behind m =
    let g : Good items placed.lay placed.rises begins behind p
    = record { code = code; fresh = first_is_fresh begins items p.item first } in
    let h = entered items words placed begins stand behind m m (omega arith) i p g never in
    (h.count, record { seen = same_seen placed.lay items p i m h.count h.same; entered = h.passes })
