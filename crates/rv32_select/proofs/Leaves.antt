-- How a course leaves by a jump for the items behind all others, and stays there with the jump's
-- address in x5.
use Rattle.std.proofs.Common.{◌≡◌, ℕ, zero, suc, ◌+◌, ◌-◌, ◌<◌, ◌≤◌, List, [], length, Some, ◌⊎◌, inl, inr, sym, ap, ◌∙◌, subst, arith}
use Rattle.std.specs.Prelude.{slice_get}
use Rattle.std.proofs.lemmas.Bool.{cases_lt}
use Rattle.seq.proofs.Order.{le_or_lt}
use Rattle.rv32_items.specs.declared.Item.{Item}
use Rattle.rv32_items.specs.declared.Item.TheVariants.{Jump}
use Rattle.rv32_items.specs.Course.{Layout, Point, Going, Exited, course}
use Rattle.rv32_items.specs.Flows.{IsStopItem}
use Rattle.rv32_items.specs.Leaving.{LeavesByLinkJump, ExitsWithRegister}
use Rattle.rv32_select.proofs.Courses.{course_none, Goes, Exits}
use Rattle.rv32_select.proofs.Fronts.{course_front}

module _ (lay : Layout) (items : List Item) where
  -- wherever a course goes on, it is at one of the items from `stops` on, with this word in x5
  pub record Remains (stops word : ℕ) (input : List ℕ) (p : Point) : Type 0 where
    pub remains : (m : ℕ) (q : Point) → (course lay items m input p).end ≡ Going q
        → (stops ≤ q.item) × (q.regs 5 ≡ word)

  -- a course comes to a jump that links x5, and behind it remains at the last twelve items, with
  -- the address behind the jump in x5
  pub record Leaves (input : List ℕ) (p : Point) : Type 0 where
    pub taken : ℕ
    pub point : Point
    pub stood : (course lay items taken input p).end ≡ Going point
    pub target : ℕ
    pub jumps : slice_get items point.item ≡ Some (Jump 5 target)
    pub stops : ℕ
    pub last : length items ≡ stops + 12
    pub stays : (m : ℕ) (q : Point) → taken < m → (course lay items m input p).end ≡ Going q
        → (stops ≤ q.item) × (q.regs 5 ≡ lay.address (suc point.item))

  same_point : (p q : Point) → Going p ≡ Going q → p ≡ q
  same_point p q e = cc

  not_both : (p : Point) (code : ℕ) → Exited code ≡ Going p → ⊥
  not_both p code e = cc

  at_first : (stops word : ℕ) (input : List ℕ) (p q : Point) → stops ≤ p.item → p.regs 5 ≡ word
      → (course lay items zero input p).end ≡ Going q → (stops ≤ q.item) × (q.regs 5 ≡ word)
  at_first stops word input p q le five e =
      let same : p ≡ q = same_point p q (sym (ap (λ c. c.end) (course_none lay items input p)) ∙ e)
      in
      subst (λ (r : Point). (stops ≤ r.item) × (r.regs 5 ≡ word)) same (le, five)

  -- one item more
  pub remains_on : {input left bytes labels c d : List ℕ} {p q : Point} (stops word : ℕ)
      → stops ≤ p.item → p.regs 5 ≡ word → Goes lay items 1 input p c bytes labels left q d
      → Remains stops word left q → Remains stops word input p
  remains_on {input} {left} {bytes} {labels} {c} {d} {p} {q} stops word le five g more
      = record { remains = all }
    where
      all : (m : ℕ) (r : Point) → (course lay items m input p).end ≡ Going r → (stops ≤ r.item)
          × (r.regs 5 ≡ word)
      all zero r e = at_first stops word input p r le five e
      all (suc m) r e =
          let count : suc m ≡ 1 + m = omega arith in
          more.remains m r
          (sym (ap (λ n. (course lay items n input p).end) count ∙ ap (λ x. x.end) (g.by m)) ∙
          e)

  -- the last item
  pub remains_exit : {input left bytes labels c : List ℕ} {p : Point} {code : ℕ} (stops word : ℕ)
      → stops ≤ p.item → p.regs 5 ≡ word → Exits lay items 1 input p c bytes labels left code
      → Remains stops word input p
  remains_exit {input} {left} {bytes} {labels} {c} {p} {code} stops word le five g
      = record { remains = all }
    where
      all : (m : ℕ) (r : Point) → (course lay items m input p).end ≡ Going r → (stops ≤ r.item)
          × (r.regs 5 ≡ word)
      all zero r e = at_first stops word input p r le five e
      all (suc m) r e =
          let count : suc m ≡ 1 + m = omega arith in
          absurd (not_both r code
          (sym (ap (λ n. (course lay items n input p).end) count ∙ ap (λ x. x.end) (g.by m)) ∙
          e))

  -- the jump
  pub leaves_now : {input c d : List ℕ} {p q : Point} (stops target : ℕ)
      → slice_get items p.item ≡ Some (Jump 5 target) → length items ≡ stops + 12
      → Goes lay items 1 input p c [] [] input q d → Remains stops (lay.address (suc p.item)) input
      q → Leaves input p
  leaves_now {input} {c} {d} {p} {q} stops target here last g more = record {
    taken = 0;
    point = p;
    stood = ap (λ x. x.end) (course_none lay items input p);
    target = target;
    jumps = here;
    stops = stops;
    last = last;
    stays = stays;
  }
    where
      stays : (m : ℕ) (r : Point) → 0 < m → (course lay items m input p).end ≡ Going r
          → (stops ≤ r.item) × (r.regs 5 ≡ lay.address (suc p.item))
      stays zero r lt e = absurd (omega (arith, lt))
      stays (suc m) r lt e =
          let count : suc m ≡ 1 + m = omega arith in
          more.remains m r
          (sym (ap (λ n. (course lay items n input p).end) count ∙ ap (λ x. x.end) (g.by m)) ∙
          e)

  -- a stretch first
  pub leaves_on : {k : ℕ} {input left bytes labels c d : List ℕ} {p q : Point}
      → Goes lay items k input p c bytes labels left q d → Leaves left q → Leaves input p
  leaves_on {k} {input} {left} {bytes} {labels} {c} {d} {p} {q} g more = record {
    taken = k + more.taken;
    point = more.point;
    stood = ap (λ x. x.end) (g.by more.taken) ∙ more.stood;
    target = more.target;
    jumps = more.jumps;
    stops = more.stops;
    last = more.last;
    stays = λ m r lt e.
        let count : m ≡ k + (m - k) = omega (arith, lt) in
        more.stays (m - k) r (omega (arith, lt))
        (sym (ap (λ n. (course lay items n input p).end) count ∙ ap (λ x. x.end) (g.by (m - k)))
        ∙ e);
  }

  -- it exits with a value in a register, also behind a stretch
  pub exits_on : {k code register value : ℕ} {input left bytes labels c d : List ℕ} {p q : Point}
      → Goes lay items k input p c bytes labels left q d
      → ExitsWithRegister lay items left q code register value
      → ExitsWithRegister lay items input p code register value
  exits_on {k} {code} {register} {value} {input} {left} {bytes} {labels} {c} {d} {p} {q} g x
      = record {
        taken = k + x.taken;
        point = x.point;
        stood = ap (λ y. y.end) (g.by x.taken) ∙ x.stood;
        exits =
            let count : suc (k + x.taken) ≡ k + suc x.taken = omega arith in
            ap (λ n. (course lay items n input p).end) count
            ∙ ap (λ y. y.end) (g.by (suc x.taken)) ∙ x.exits;
        has = x.has;
      }

  -- and where the exit is the next item
  pub exits_here_with : {code : ℕ} {input left bytes labels c : List ℕ} {p : Point}
      (register value : ℕ) → Exits lay items 1 input p c bytes labels left code
      → p.regs register ≡ value → ExitsWithRegister lay items input p code register value
  exits_here_with {code} {input} {left} {bytes} {labels} {c} {p} register value g has = record {
    taken = 0;
    point = p;
    stood = ap (λ x. x.end) (course_none lay items input p);
    exits =
        let count : 1 ≡ 1 + 0 = omega arith in
        ap (λ n. (course lay items n input p).end) count ∙ ap (λ x. x.end) (g.by 0);
    has = has;
  }

  -- an item that is a jump is none of the stops
  before_stops : (stops n target : ℕ) →
      ((k : ℕ) (i : Item) → stops ≤ k → slice_get items k ≡ Some i → IsStopItem i)
      → slice_get items n ≡ Some (Jump 5 target) → n < stops
  before_stops stops n target all_stop here = elim (cases_lt n stops) [
    | inl lt ↦ lt
    | inr le ↦ absurd (all_stop n (Jump 5 target) le here)
  ]

  -- so does one that has come to an exit, where the last twelve items are the stops
  pub leaves_by : (stops code k : ℕ) (input : List ℕ) (p : Point) → length items ≡ stops + 12
      → ((n : ℕ) (i : Item) → stops ≤ n → slice_get items n ≡ Some i → IsStopItem i)
      → (course lay items k input p).end ≡ Exited code → Leaves input p
      → LeavesByLinkJump lay items stops 5 input p k
  leaves_by stops code k input p last all_stop exited h =
      let same : h.stops ≡ stops = let more = h.last in omega arith in
      record {
        taken = h.taken;
        within = within (le_or_lt k h.taken);
        point = h.point;
        stood = h.stood;
        before = before_stops stops h.point.item h.target all_stop h.jumps;
        target = h.target;
        jumps = h.jumps;
        stays = λ m q lt le e. let s = h.stays m q lt e in (subst (λ n. n ≤ q.item) same s.0, s.1);
      }
    where
      within : (k ≤ h.taken) ⊎ (h.taken < k) → h.taken < k
      within (inr lt) = lt
      within (inl le) =
          let count : k + (h.taken - k) ≡ h.taken = omega (arith, le) in
          let longer = subst (λ n. (course lay items n input p).end ≡ Going h.point) (sym count)
          h.stood in
          let f = course_front lay items k (h.taken - k) input p in
          absurd (elim f.ended [
            | inl g ↦ not_both g.0 code (sym exited ∙ g.1)
            | inr is ↦ not_both h.point code (sym exited ∙ sym (ap (λ c. c.end) is) ∙ longer)
          ])
