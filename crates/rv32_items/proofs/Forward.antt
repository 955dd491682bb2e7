-- Where items flow and each return goes home, the machine goes forward.
use Rattle.std.proofs.Common.{◌≡◌, ◌≢◌, ℕ, zero, suc, ◌+◌, ◌<◌, ◌≤◌, ◌⊎◌, Bool, true, false, nat_eq, ◌&&◌, ◌||◌, List, [], ◌∷◌, ◌++◌, map, length, drop, Option, Some, None, slice_get, unwrap_or, inl, inr, refl, sym, ap, ◌∙◌, subst, append_assoc, arith}
use Rattle.std.specs.Prelude.{if◌then◌else◌}
use Rattle.std.proofs.lemmas.Bool.{cases_lt, eq-eqb, eqb-true, true≢false, or_right, and_right}
use Rattle.std.proofs.lemmas.Option.{slice_get_within}
use Rattle.rv32_machine.specs.declared.machine.TrapKind.{TrapKind}
use Rattle.rv32_machine.specs.Arithmetic.{plus, is_taken}
use Rattle.rv32_machine.specs.Steps.{State, Outcome, Next as Next', Written as Written', Asked as Asked', Ended as Ended', Trapped as Trapped', step, act, given, set_reg, reg}
use Rattle.rv32_steps.specs.Leads.{at}
use Rattle.rv32_steps.specs.Trace.{procedures_at, procedure_from, is_one_of, is_return, instruction_at, writes_link, Onward, Leaves, forward_by, forward_to, Forward}
use Rattle.rv32_items.specs.declared.Item.{Item}
use Rattle.rv32_items.specs.declared.Item.TheVariants.{Label, Plain, Branch, Jump}
use Rattle.rv32_items.specs.Course.{Layout, Point, Turn, Next, Written, Asked, Ended, Trapped, turn, turn_of, to_item, behind, behind_plain, state_at, kind_of, label_from, label_of, address_from, Stopped, onward, course, NeverTrapsOn}
use Rattle.rv32_items.specs.Placed.{is_instruction, is_jump, times, target_of, Closes, StepsAtRisingPcs, Does, Placed}
use Rattle.rv32_items.specs.Told.{is_call, returns, home_by, home_to, ReturnsHome}
use Rattle.rv32_items.specs.Flows.{begins_procedure, IsForwardTransfer, IsStopItem, HasStructuredFlow}
use Rattle.rv32_items.specs.Laws.{HasCode, address_of, addresses_of, MachineGoesForward}
use Rattle.rv32_items.proofs.Stands.{stands}
use Rattle.rv32_items.proofs.Addresses.{not_true, not_one, label_there, addresses_rise, below_top, begin_at, none_within}
use Rattle.rv32_items.proofs.CodeAfterTurn.{turn_is, Fresh, Good, GoodTurn, turn_good, fresh_behind}
use Rattle.rv32_items.proofs.Moments.{course_none, climbs_below}
use Rattle.rv32_items.proofs.Enters.{entered, course_is, next_point, behind_begin, first_is_fresh}

one_mapped : (f : ℕ → ℕ) (bs : List ℕ) (b : ℕ) → is_one_of bs b ≡ true
    → is_one_of (map f bs) (f b) ≡ true
one_mapped f [] b h = absurd (true≢false (sym h))
one_mapped f (x ∷ bs) b h = go (nat_eq b x) refl h (λ r. one_mapped f bs b r)
  where
    go : (t : Bool) → nat_eq b x ≡ t → t || is_one_of bs b ≡ true
        → (is_one_of bs b ≡ true → is_one_of (map f bs) (f b) ≡ true)
        → nat_eq (f b) (f x) || is_one_of (map f bs) (f b) ≡ true
    go true e h rest = ap (λ t. t || is_one_of (map f bs) (f b))
        (eq-eqb (f b) (f x) (ap f (eqb-true b x e)))
    go false e h rest = or_right (nat_eq (f b) (f x)) (is_one_of (map f bs) (f b)) (rest h)

call_jumps : (i : Item) → is_call (Some i) ≡ true → is_jump i ≡ true
call_jumps (Label l) h = absurd (true≢false (sym h))
call_jumps (Plain i) h = absurd (true≢false (sym h))
call_jumps (Branch c a b l) h = absurd (true≢false (sym h))
call_jumps (Jump k l) h = refl

-- ---- a step, and what is asked of it

forward_step : (addresses : List ℕ) (m : ℕ) (input : List ℕ) (s : State) (calls : List ℕ)
    (o : Outcome) → step s ≡ o → forward_to addresses (λ i t c. Forward addresses m i t c) input s
    calls o → Forward addresses (suc m) input s calls
unfolding Forward
forward_step addresses m input s calls o e h = subst
    (λ o. forward_to addresses (λ i t c. Forward addresses m i t c) input s calls o) (sym e) h

forward_none : (addresses : List ℕ) (input : List ℕ) (s : State) (calls : List ℕ)
    → Forward addresses 0 input s calls
unfolding Forward
forward_none addresses input s calls = tt

pub home_step : (lay : Layout) (items : List Item) (n : ℕ) (input : List ℕ) (p : Point)
    (calls : List ℕ) (t : Turn) → turn lay items p ≡ t → ReturnsHome lay items (suc n) input p calls
    → home_to lay items (λ i q c. ReturnsHome lay items n i q c) input p calls t
unfolding ReturnsHome
home_step lay items n input p calls t e h = subst
    (λ t. home_to lay items (λ i q c. ReturnsHome lay items n i q c) input p calls t) e h

module _ (items : List Item) (words : List ℕ) (placed : Placed items words) (begins : List ℕ)
    (stand : (b : ℕ) → is_one_of begins b ≡ true → times b items ≡ 1)
    (flows : HasStructuredFlow begins items) where
  abbrev lay : Layout
  lay = placed.lay

  abbrev addresses : List ℕ
  addresses = addresses_of lay items begins

  abbrev good : Point → Type 0
  good p = Good items lay placed.rises begins flows.instruction_behind p

  -- however far the course goes, each return goes home
  abbrev Home : (input : List ℕ) → Point → (calls : List ℕ) → Type 0
  Home input p calls = (n : ℕ) → ReturnsHome lay items n input p calls

  -- ---- where the course does not trap

  any_home : (rest : Point → List ℕ → Type 0) (from : ℕ) (calls : List ℕ) (opens closes : Bool)
      (q : Point) → home_by lay items rest from calls opens closes q → (c : List ℕ) × rest q c
  any_home rest from calls true closes q h = (suc from ∷ calls, h)
  any_home rest from calls false false q h = (calls, h)
  any_home rest from [] false true q h = absurd h
  any_home rest from (c ∷ calls) false true q h = (calls, h.1)

  home_never : (n : ℕ) (input : List ℕ) (p : Point) (calls : List ℕ)
      → ReturnsHome lay items n input p calls → (kind : TrapKind)
      → (course lay items n input p).end ≢ Stopped kind
  home_never zero input p calls h kind e = let g = sym
      (ap (λ c. c.end) (course_none lay items input p)) ∙ e in cc
  home_never (suc n) input p calls h kind e = by_turn (turn lay items p) refl
      (λ i q c r. home_never n i q c r kind)
    where
      at_turn : (t : Turn) → turn lay items p ≡ t →
          (onward lay items (course lay items n) input p t).end ≡ Stopped kind
      at_turn t et = sym
          (ap (λ c. c.end)
          (course_is items words placed begins stand flows.instruction_behind n input p
          (slice_get items p.item) t refl et)) ∙ e

      by_turn : (t : Turn) → turn lay items p ≡ t →
          ((i : List ℕ) (q : Point) (c : List ℕ) → ReturnsHome lay items n i q c
          → (course lay items n i q).end ≢ Stopped kind) → ⊥
      by_turn (Next q) et rest =
          let g = any_home (λ q c. ReturnsHome lay items n input q c) p.item calls
          (is_call (slice_get items p.item)) (returns (slice_get items p.item)) q
          (home_step lay items n input p calls (Next q) et h) in
          rest input q g.0 g.1 (at_turn (Next q) et)
      by_turn (Written a len bytes q) et rest =
          rest input q calls (home_step lay items n input p calls (Written a len bytes q) et h)
          (at_turn (Written a len bytes q) et)
      by_turn (Asked a) et rest =
          rest (drop 1 input) (behind p.item (given (state_at lay items p) (slice_get input 0)))
          calls (home_step lay items n input p calls (Asked a) et h) (at_turn (Asked a) et)
      by_turn (Ended code) et rest = let g = at_turn (Ended code) et in cc
      by_turn (Trapped k) et rest = home_step lay items n input p calls (Trapped k) et h

  pub never : (input : List ℕ) (p : Point) (calls : List ℕ) → Home input p calls
      → NeverTrapsOn lay items input p
  never input p calls h n kind e = home_never n input p calls (h n) kind e

  -- ---- from the stops on nothing begins

  after_stop : (n : ℕ) →
      ((input : List ℕ) (q : Point) → flows.stops ≤ q.item
      → procedures_at begins (course lay items n input q).passed ≡ [])
      → (input : List ℕ) (p : Point) (i : Item) → flows.stops ≤ p.item → IsStopItem i
      → slice_get items p.item ≡ Some i → procedures_at begins
      (onward lay items (course lay items n) input p (turn_of lay items p (Some i))).passed ≡ []
  after_stop n rest input p (Label l) le is e = rest input
      (record { regs = p.regs; item = suc p.item; memory = p.memory }) (omega arith)
  after_stop n rest input p (Plain i) le is e = by_return (is_return i) is
    where
      by_outcome : (o : Outcome) → procedures_at begins
          (onward lay items (course lay items n) input p (behind_plain lay items p o)).passed ≡ []
      by_outcome (Next' s) = rest input (behind p.item s) (omega arith)
      by_outcome (Written' a len bytes s) = rest input (behind p.item s) (omega arith)
      by_outcome (Asked' a) = rest (drop 1 input)
          (behind p.item (given (state_at lay items p) (slice_get input 0))) (omega arith)
      by_outcome (Ended' c) = refl
      by_outcome (Trapped' kind) = refl

      by_return : (b : Bool) → b ≡ false → procedures_at begins
          (onward lay items (course lay items n) input p
          (if b then to_item lay items (address_from 0 items lay (p.regs 1))
          (set_reg p.regs 0 (lay.address (suc p.item))) p
          else behind_plain lay items p (act (state_at lay items p) i))).passed ≡ []
      by_return true h = absurd (true≢false h)
      by_return false h = by_outcome (act (state_at lay items p) i)
  after_stop n rest input p (Branch c a b l) le is e = absurd is
  after_stop n rest input p (Jump k l) le is e = absurd is

  stops_pass : (n : ℕ) (input : List ℕ) (p : Point) → flows.stops ≤ p.item
      → procedures_at begins (course lay items n input p).passed ≡ []
  stops_pass zero input p le = ap (λ c. procedures_at begins c.passed)
      (course_none lay items input p)
  stops_pass (suc n) input p le = by_item (slice_get items p.item) refl
      (λ i q h. stops_pass n i q h)
    where
      no_label : (o : Option Item) → slice_get items p.item ≡ o
          → procedures_at begins (label_of o) ≡ []
      no_label None e = refl
      no_label (Some (Label l)) e =
          ap (λ f. f ++ []) (not_one 0 begins l (not_true (is_one_of begins l) (λ is.
          let lt = flows.procedures_before p.item (ap (begins_procedure begins) e ∙ is)
          in omega arith)))
      no_label (Some (Plain i)) e = refl
      no_label (Some (Branch c a b l)) e = refl
      no_label (Some (Jump k l)) e = refl

      joined : (xs ys : List ℕ) → procedures_at begins (xs ++ ys) ≡ procedures_at begins xs
          ++ procedures_at begins ys
      joined [] ys = refl
      joined (x ∷ xs) ys = ap (λ r. procedure_from 0 begins x ++ r) (joined xs ys) ∙ sym
          (append_assoc (procedure_from 0 begins x) (procedures_at begins xs)
          (procedures_at begins ys))

      by_item : (o : Option Item) → slice_get items p.item ≡ o
          → ((input : List ℕ) (q : Point) → flows.stops ≤ q.item
          → procedures_at begins (course lay items n input q).passed ≡ [])
          → procedures_at begins (course lay items (suc n) input p).passed ≡ []
      by_item None e rest = ap (λ c. procedures_at begins c.passed)
          (course_is items words placed begins stand flows.instruction_behind n input p None
          (turn_of lay items p None) e (turn_is lay items p None e))
      by_item (Some i) e rest =
          let t = turn_of lay items p (Some i) in
          let more = (onward lay items (course lay items n) input p t).passed in
          ap (λ c. procedures_at begins c.passed)
          (course_is items words placed begins stand flows.instruction_behind n input p (Some i)
          t e (turn_is lay items p (Some i) e))
          ∙ joined (label_of (Some i)) more
          ∙ ap (λ f. f ++ procedures_at begins more) (no_label (Some i) e)
          ∙ after_stop n rest input p i le (flows.all_stop p.item i le e) e

  leaves : (input : List ℕ) (q : Point) → good q → NeverTrapsOn lay items input q
      → flows.stops ≤ q.item → Leaves addresses input (state_at lay items q)
  leaves input q g never le m =
      let h = entered items words placed begins stand flows.instruction_behind m m (omega arith)
      input q g never in
      h.passes ∙ stops_pass h.count input q le

  -- ---- where an item goes

  -- something begins at an item, and so at its address
  begin_address : (t : ℕ) (l : ℕ) → slice_get items t ≡ Some (Label l) → is_one_of begins l ≡ true
      → is_one_of addresses (lay.address t) ≡ true
  begin_address t l e is =
      let s = stands l items (stand l is) in
      let item : t ≡ s.0 = s.1.1.once t e in
      let at : address_of lay items l ≡ lay.address t
      = ap (λ o. lay.address (unwrap_or o 0)) s.1.0 ∙ ap (λ k. lay.address k) (sym item) in
      subst (λ c. is_one_of addresses c ≡ true) at (one_mapped (address_of lay items) begins l is)

  pub begin_item : (o : Option Item) → begins_procedure begins o ≡ true → (l : ℕ)
      × ((o ≡ Some (Label l)) × (is_one_of begins l ≡ true))
  begin_item None h = absurd (true≢false (sym h))
  begin_item (Some (Label l)) h = (l, (refl, h))
  begin_item (Some (Plain i)) h = absurd (true≢false (sym h))
  begin_item (Some (Branch c a b l)) h = absurd (true≢false (sym h))
  begin_item (Some (Jump k l)) h = absurd (true≢false (sym h))

  -- on to the next item, or where its label is
  abbrev pub Way : Item → (n t : ℕ) → Type 0
  Way i n t = ((t ≡ suc n) ⊎ ((t ≤ length items) × IsForwardTransfer begins items flows.stops n t))
      × (is_call (Some i) ≡ true → begins_procedure begins (slice_get items t) ≡ true)

  abbrev pub WayTurn : Item → Point → Turn → Type 0
  WayTurn i p (Next q) = returns (Some i) ≡ false → Way i p.item q.item
  WayTurn i p (Written a len bytes q) = q.item ≡ suc p.item
  WayTurn i p (Asked a) = Unit {0}
  WayTurn i p (Ended code) = Unit {0}
  WayTurn i p (Trapped kind) = Unit {0}

  module _ (p : Point) where
    label_way : (i : Item) (l : ℕ) (regs : ℕ → ℕ) → slice_get items p.item ≡ Some i
        → target_of i ≡ Some l → (o : Option ℕ) → label_from 0 items l ≡ o
        → WayTurn i p (to_item lay items o regs p)
    label_way i l regs e target None f = tt
    label_way i l regs e target (Some t) f =
        let found = label_there 0 items l t f in
        let same : found.0 ≡ t = omega (arith, found.1.0) in
        let here : slice_get items t ≡ Some (Label l)
        = ap (λ k. slice_get items k) (sym same) ∙ found.1.1 in
        let lt = slice_get_within items t (Label l) here in
        λ other. (
          inr (omega arith, flows.goes_on p.item l t i e target f),
          λ call. ap (begins_procedure begins) here ∙ flows.calls p.item l i e call target,
        )

    plain_way : (i : Item) → is_call (Some i) ≡ false → (o : Outcome)
        → WayTurn i p (behind_plain lay items p o)
    plain_way i no_call (Next' s) = λ other.
        (inl refl, λ call. absurd (true≢false (sym call ∙ no_call)))
    plain_way i no_call (Written' a len bytes s) = refl
    plain_way i no_call (Asked' a) = tt
    plain_way i no_call (Ended' c) = tt
    plain_way i no_call (Trapped' kind) = tt

    return_way : (i : Item) → returns (Some i) ≡ true → (o : Option ℕ) (regs : ℕ → ℕ)
        → WayTurn i p (to_item lay items o regs p)
    return_way i is None regs = tt
    return_way i is (Some t) regs = λ other. absurd (true≢false (sym is ∙ other))

    pub turn_way : (i : Item) → slice_get items p.item ≡ Some i → is_instruction (Some i) ≡ true
        → WayTurn i p (turn_of lay items p (Some i))
    turn_way (Label l) e is = absurd (true≢false (sym is))
    turn_way (Plain i) e is = by_return (is_return i) refl
      where
        by_return : (b : Bool) → is_return i ≡ b → WayTurn (Plain i) p
            (if b then to_item lay items (address_from 0 items lay (p.regs 1))
            (set_reg p.regs 0 (lay.address (suc p.item))) p
            else behind_plain lay items p (act (state_at lay items p) i))
        by_return true r = return_way (Plain i) r (address_from 0 items lay (p.regs 1))
            (set_reg p.regs 0 (lay.address (suc p.item)))
        by_return false r = plain_way (Plain i) refl (act (state_at lay items p) i)
    turn_way (Branch cond left right l) e is = by_test
        (is_taken (kind_of cond) (reg (state_at lay items p) left)
        (reg (state_at lay items p) right))
      where
        by_test : (b : Bool) → WayTurn (Branch cond left right l) p
            (if b then to_item lay items (label_from 0 items l) (lay.far p.item p.regs) p
            else Next (record { regs = p.regs; item = suc p.item; memory = p.memory }))
        by_test true = label_way (Branch cond left right l) l (lay.far p.item p.regs) e refl
            (label_from 0 items l) refl
        by_test false = λ other. (inl refl, λ call. absurd (true≢false (sym call)))
    turn_way (Jump link l) e is =
        label_way (Jump link l) l (lay.far p.item (set_reg p.regs link (lay.address (suc p.item))))
        e refl (label_from 0 items l) refl

  -- ---- going on

  onward_way : (n : ℕ) (i : Item) → slice_get items n ≡ Some i → (from : ℕ) → lay.address n ≤ from
      → from < lay.address (suc n) → (input : List ℕ) (q : Point) → good q
      → NeverTrapsOn lay items input q → (q.item ≡ suc n)
      ⊎ ((q.item ≤ length items) × IsForwardTransfer begins items flows.stops n q.item)
      → Onward addresses from input (state_at lay items q)
  onward_way n i e from lo hi input q g never (inl next) =
      let there = ap (λ k. lay.address k) next in
      inr (inl (
        omega arith,
        λ c up down. none_within items lay placed.rises begins stand
            flows.instruction_behind n i e c (omega arith) (omega arith),
      ))
  onward_way n i e from lo hi input q g never (inr (top, inl (on, none))) =
      let rise = addresses_rise items lay placed.rises (suc n) q.item (omega arith) top in
      inr (inl (
        omega arith,
        λ c up down. not_true (is_one_of addresses c) (λ is.
            let b = begin_at items lay placed.rises begins stand flows.instruction_behind c is in
            let lt = slice_get_within items b.item (Label b.label) b.here in
            elim (cases_lt n b.item) [
              | inr early ↦
                  let r = addresses_rise items lay placed.rises b.item n early
                  (let t = slice_get_within items n i e in omega arith) in
                  omega (arith, b.at)
              | inl later ↦ elim (cases_lt q.item b.item) [
                | inl past ↦ let r = addresses_rise items lay placed.rises q.item b.item
                    (omega arith) (omega arith) in omega (arith, b.at)
                | inr between ↦ true≢false
                    (sym (ap (begins_procedure begins) b.here ∙ b.is) ∙ none b.item (omega arith)
                    between)
              ]
            ]),
      ))
  onward_way n i e from lo hi input q g never (inr (top, inr (inl begin))) =
      let b = begin_item (slice_get items q.item) begin in
      inl (begin_address q.item b.0 b.1.0 b.1.1)
  onward_way n i e from lo hi input q g never (inr (top, inr (inr (on, stop)))) =
      let rise = addresses_rise items lay placed.rises (suc n) q.item (omega arith) top in
      inr (inr (omega arith, leaves input q g never stop))

  -- ---- one item

  abbrev Forwarded : ℕ → Type 0
  Forwarded b = (m : ℕ) → m ≤ b → (input : List ℕ) (p : Point) (calls : List ℕ) → good p
      → Home input p calls → Forward addresses m input (state_at lay items p)
      (map lay.address calls)

  module _ (b : ℕ) (forwarded : Forwarded b) (input : List ℕ) (p : Point) (i : Item)
      (e : slice_get items p.item ≡ Some i) (is : is_instruction (Some i) ≡ true) (calls : List ℕ)
      (home : Home input p calls) where
    abbrev Then : (m : ℕ) → List ℕ → State → List ℕ → Type 0
    Then m i t c = Forward addresses m i t c

    -- the last step of an item, to a point
    last_step : (q : Point) → good q → turn lay items p ≡ Next q → (v : State)
        → lay.address p.item ≤ v.pc → v.pc < lay.address (suc p.item)
        → step v ≡ Next' (state_at lay items q) → Closes i (lay.address (suc p.item)) v → (m : ℕ)
        → m ≤ b → Forward addresses (suc m) input v (map lay.address calls)
    last_step q g t v lo hi h closed m le =
        forward_step addresses m input v (map lay.address calls) (Next' (state_at lay items q)) h
        (subst (λ r. forward_by addresses (Then m) input v (map lay.address calls)
        (state_at lay items q) r
        (writes_link (instruction_at v) && is_one_of addresses (lay.address q.item)))
        (sym closed.returning)
        (subst (λ w. forward_by addresses (Then m) input v (map lay.address calls)
        (state_at lay items q) (returns (Some i))
        (w && is_one_of addresses (lay.address q.item))) (sym closed.linking)
        (by_kind (returns (Some i)) (is_call (Some i)) refl refl calls home_there)))
      where
        way : WayTurn i p (Next q)
        way = subst (λ t. WayTurn i p t) (sym (turn_is lay items p (Some i) e) ∙ t)
            (turn_way p i e is)

        home_there : (n : ℕ) → home_by lay items (λ q c. ReturnsHome lay items n input q c) p.item
            calls (is_call (Some i)) (returns (Some i)) q
        home_there n = subst
            (λ o. home_by lay items (λ q c. ReturnsHome lay items n input q c) p.item calls
            (is_call o) (returns o) q) e
            (home_step lay items n input p calls (Next q) t (home (suc n)))

        on : (c : List ℕ) → Home input q c → returns (Some i) ≡ false
            → Onward addresses v.pc input (state_at lay items q)
        on c h other = onward_way p.item i e v.pc lo hi input q g (never input q c h) (way other).0

        by_kind : (closes opens : Bool) → returns (Some i) ≡ closes → is_call (Some i) ≡ opens
            → (calls : List ℕ) →
            ((n : ℕ) → home_by lay items (λ q c. ReturnsHome lay items n input q c) p.item calls
            opens closes q) → forward_by addresses (Then m) input v (map lay.address calls)
            (state_at lay items q) closes (opens && is_one_of addresses (lay.address q.item))
        by_kind false false r c calls h =
            (on calls h r, forwarded m le input q calls g h)
        by_kind false true r c calls h =
            let begin = begin_item (slice_get items q.item) ((way r).1 c) in
            let there = begin_address q.item begin.0 begin.1.0 begin.1.1 in
            let top = below_top items lay placed.rises (suc p.item)
            (let lt = slice_get_within items p.item i e in omega arith) in
            let link : plus v.pc 4 ≡ lay.address (suc p.item) = let a
            = closed.at_end (call_jumps i c) in omega arith in
            let rest = forwarded m le input q (suc p.item ∷ calls) g h in
            subst (λ x. forward_by addresses (Then m) input v (map lay.address calls)
            (state_at lay items q) false x) (sym there)
            (subst (λ a. Forward addresses m input (state_at lay items q)
            (a ∷ map lay.address calls)) (sym link) rest)
        by_kind true false r c [] h = absurd (h 0)
        by_kind true false r c (x ∷ calls) h =
            (ap (λ k. lay.address k) (h 0).0, forwarded m le input q calls g (λ n. (h n).1))
        by_kind true true r c calls h = absurd (not_both i r c)
          where
            not_both : (i : Item) → returns (Some i) ≡ true → is_call (Some i) ≡ true → ⊥
            not_both (Label l) r c = true≢false (sym r)
            not_both (Plain i) r c = true≢false (sym c)
            not_both (Branch x y z l) r c = true≢false (sym r)
            not_both (Jump k l) r c = true≢false (sym r)

    later : (v : State) →
        ((m : ℕ) → m ≤ b → Forward addresses (suc m) input v (map lay.address calls)) → (m : ℕ)
        → m ≤ b → Forward addresses m input v (map lay.address calls)
    later v rest zero le = forward_none addresses input v (map lay.address calls)
    later v rest (suc m) le = rest m (omega arith)

    climb : (q : Point) → good q → turn lay items p ≡ Next q → (k : ℕ) (v : State)
        → lay.address p.item ≤ v.pc → StepsAtRisingPcs i (suc k) (lay.address (suc p.item)) v
        (state_at lay items q) → (m : ℕ) → m ≤ b → Forward addresses (suc m) input v
        (map lay.address calls)
    climb q g t zero v lo h m le = last_step q g t v lo h.0 h.1.0 h.1.1 m le
    climb q g t (suc k) v lo h m le =
        forward_step addresses m input v (map lay.address calls) (Next' h.0) h.1.1.0
        (subst (λ r. forward_by addresses (Then m) input v (map lay.address calls) h.0 r
        (writes_link (instruction_at v) && is_one_of addresses h.0.pc)) (sym h.1.1.1.0)
        (subst (λ x. forward_by addresses (Then m) input v (map lay.address calls) h.0 false
        (writes_link (instruction_at v) && x))
        (sym (within h.0.pc (omega (arith, h.1.0)) below))
        (subst (λ x. forward_by addresses (Then m) input v (map lay.address calls) h.0 false x)
        (sym (and_right (writes_link (instruction_at v)) false refl)) (
          inr (inl (h.1.0, λ c up down. within c (omega arith) (omega (arith, below)))),
          later h.0 (λ m le. climb q g t k h.0 (omega (arith, h.1.0)) h.1.1.1.1 m le) m le,
        ))))
      where
        below : h.0.pc < lay.address (suc p.item)
        below = climbs_below i (lay.address (suc p.item)) (state_at lay items q) k h.0 h.1.1.1.1

        within : (c : ℕ) → lay.address p.item < c → c < lay.address (suc p.item)
            → is_one_of addresses c ≡ false
        within c up down = none_within items lay placed.rises begins stand flows.instruction_behind
            p.item i e c up down

    instruction : HasCode lay p → (m : ℕ) → m ≤ b → Forward addresses (suc m) input
        (state_at lay items p) (map lay.address calls)
    instruction code m le =
        let g = turn_good items lay placed.rises begins flows.instruction_behind p code i e is in
        let d = placed.does p i code.0 code.1 e in
        by_turn (turn lay items p) refl
        (subst (λ t. GoodTurn items lay placed.rises begins flows.instruction_behind p t)
        (sym (turn_is lay items p (Some i) e)) g) d.0 d.1.1
      where
        s : State
        s = state_at lay items p

        next_is : lay.address p.item < lay.address (suc p.item)
        next_is = let r = placed.rises.rises p.item (ap is_instruction e ∙ is) in omega arith

        by_turn : (t : Turn) → turn lay items p ≡ t
            → GoodTurn items lay placed.rises begins flows.instruction_behind p t → (k : ℕ)
            → Does lay items p.item i k (state_at lay items p) t
            → Forward addresses (suc m) input (state_at lay items p) (map lay.address calls)
        by_turn (Next q) t g zero d = absurd (true≢false (sym is ∙ d.0))
        by_turn (Next q) t g (suc k) d = climb q g t k (state_at lay items p) (omega arith) d m le
        by_turn (Written a len bytes q) t g k d =
            let h : Home input q calls = λ n. home_step lay items n input p calls
            (Written a len bytes q) t (home (suc n)) in
            let way = subst (λ t. WayTurn i p t) (sym (turn_is lay items p (Some i) e) ∙ t)
            (turn_way p i e is) in
            let on = onward_way p.item i e (lay.address p.item) (omega arith) next_is input q g
            (never input q calls h) (inl way) in
            forward_step addresses m input (state_at lay items p) (map lay.address calls)
            (Written' a len bytes (state_at lay items q)) d.1
            (on, forwarded m le input q calls g h)
        by_turn (Asked a) t g k d =
            let byte = slice_get input 0 in
            let left = drop 1 input in
            let q = behind p.item (given (state_at lay items p) byte) in
            let after_it = g byte in
            let h : Home left q calls = λ n. home_step lay items n input p calls (Asked a) t
            (home (suc n)) in
            let on = onward_way p.item i e (lay.address p.item) (omega arith) next_is left q
            after_it.0 (never left q calls h) (inl refl) in
            forward_step addresses m input (state_at lay items p) (map lay.address calls) (Asked' a)
            d.1
            (subst (λ v. Onward addresses (lay.address p.item) left v
            × Forward addresses m left v (map lay.address calls)) after_it.1
            (on, forwarded m le left q calls after_it.0 h))
        by_turn (Ended code) t g k d = forward_step addresses m input (state_at lay items p)
            (map lay.address calls) (Ended' code) d.1 tt
        by_turn (Trapped kind) t g k d = absurd
            (home_step lay items 0 input p calls (Trapped kind) t (home 1))

  -- ---- labels

  module _ (b : ℕ) (forwarded : Forwarded b) (m : ℕ) (le : m ≤ b) (input : List ℕ) (calls : List ℕ)
    where
      abbrev Now : Point → Type 0
      Now p = Forward addresses (suc m) input (state_at lay items p) (map lay.address calls)

      past_labels : (d : ℕ) (p : Point) → length items ≤ p.item + d → good p → Home input p calls
          → (o : Option Item) → slice_get items p.item ≡ o → Now p
      past_labels d p top g home None e = absurd
          (home_step lay items 0 input p calls _ (turn_is lay items p None e) (home 1))
      past_labels d p top g home (Some (Plain i)) e = instruction b forwarded input p (Plain i) e refl
          calls home g.code m le
      past_labels d p top g home (Some (Branch c x y l)) e
          = instruction b forwarded input p (Branch c x y l) e refl calls home g.code m le
      past_labels d p top g home (Some (Jump k l)) e = instruction b forwarded input p (Jump k l) e
          refl calls home g.code m le
      past_labels zero p top g home (Some (Label l)) e =
          let lt = slice_get_within items p.item (Label l) e in absurd (omega arith)
      past_labels (suc d) p top g home (Some (Label l)) e =
          subst (λ v. Forward addresses (suc m) input v (map lay.address calls)) stays
          (by_begin (is_one_of begins l) refl
          (λ fresh. past_labels d (next_point p) (omega arith)
          (record { code = g.code; fresh = fresh }) next (slice_get items (suc p.item)) refl))
        where
          stays : state_at lay items (next_point p) ≡ state_at lay items p
          stays = ap (λ a. at p.regs a p.memory) (placed.rises.labels p.item l e)

          next : Home input (next_point p) calls
          next n = subst
              (λ o. home_by lay items (λ q c. ReturnsHome lay items n input q c) p.item calls
              (is_call o) (returns o) (next_point p)) e
              (home_step lay items n input p calls (Next (next_point p))
              (turn_is lay items p (Some (Label l)) e) (home (suc n)))

          by_begin : (t : Bool) → is_one_of begins l ≡ t
              → (Fresh begins items (suc p.item) → Now (next_point p)) → Now (next_point p)
          by_begin false n rest = rest
              (fresh_behind items lay placed.rises begins flows.instruction_behind p.item
              (Some (Label l)) e n)
          by_begin true y rest =
              let i = behind_begin items words placed begins stand flows.instruction_behind p.item
              (ap (begins_procedure begins) e ∙ y) in
              instruction b forwarded input (next_point p) i.0 i.1.0 i.1.1 calls next g.code m le

  goes_forward : (b : ℕ) → Forwarded b
  goes_forward zero m le input p calls g home =
      let none : 0 ≡ m = omega arith in
      subst (λ n. Forward addresses n input (state_at lay items p) (map lay.address calls)) none
      (forward_none addresses input (state_at lay items p) (map lay.address calls))
  goes_forward (suc b) zero le input p calls g home
      = forward_none addresses input (state_at lay items p) (map lay.address calls)
  goes_forward (suc b) (suc m) le input p calls g home =
      past_labels b (goes_forward b) m (omega arith) input calls (length items) p (omega arith) g
      home (slice_get items p.item) refl

-- ---- the law

pub items_go_forward : MachineGoesForward
items_go_forward items words placed p i begins code first home stand flows m =
    let g : Good items placed.lay placed.rises begins flows.instruction_behind p
    = record { code = code; fresh = first_is_fresh begins items p.item first } in
    goes_forward items words placed begins stand flows m m (omega arith) i p [] g home
