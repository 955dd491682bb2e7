-- What the courses of items are where the machine does what each run of a program does, however
-- many units it has.
use Rattle.std.proofs.Common.{◌≡◌, ℕ, suc, ◌+◌, ◌-◌, ◌≤◌, List, [], ◌∷◌, ◌++◌, length, Bool, true, false, Some, inl, inr, refl, sym, ap, ◌∙◌, subst, arith, append_assoc, length-append}
use Rattle.std.specs.Prelude.{nat_eq, if◌then◌else◌, slice_get}
use Rattle.seq.proofs.Lists.{is_empty}
use Rattle.seq.proofs.Order.{le_or_lt}
use Rattle.low_code.specs.Values.{World, Answer, gives, stops, no_alternative, out_of_units, missing, heap_full, stack_full}
use Rattle.low_code.specs.Run.{end_of, world_of}
use Rattle.rv32_steps.specs.Trace.{procedures_at, procedure_from}
use Rattle.rv32_items.specs.declared.Item.{Item}
use Rattle.rv32_items.specs.declared.Item.TheVariants.{Label}
use Rattle.rv32_items.specs.Course.{Layout, Point, turn, onward, label_of, Going, Exited, Course, stands, after, course}
use Rattle.rv32_items.specs.Told.{ReturnsHome}
use Rattle.rv32_select.specs.Selects.{exit_of, SameOutputAndInput, EndsLikeRun, Follows, Matches, ReachesAnswer, ExitsBehindCells, HasNextCell}
use Rattle.rv32_select.proofs.Courses.{course_more, course_none}
use Rattle.rv32_select.proofs.Fronts.{IsFront, front_itself, passed_few, course_front, home_front}
use Rattle.rv32_select.proofs.Leaves.{Leaves}
use Rattle.rv32_select.proofs.Relation.{Ran, Ends, Waits}
use Rattle.rv32_machine.proofs.Composed.{end_append}

one_at_most : (f : ℕ) (begins : List ℕ) (l : ℕ) → length (procedure_from f begins l) ≤ 1
one_at_most f [] l = omega arith
one_at_most f (b ∷ bs) l = go (nat_eq l b) (one_at_most (suc f) bs l)
  where
    go : (t : Bool) → length (procedure_from (suc f) bs l) ≤ 1
        → length (if t then f ∷ [] else procedure_from (suc f) bs l) ≤ 1
    go true h = omega arith
    go false h = h

-- no more procedures are met than labels
procedures_few : (begins labels : List ℕ) → length (procedures_at begins labels) ≤ length labels
procedures_few begins [] = omega arith
procedures_few begins (l ∷ labels) =
    let one = one_at_most 0 begins l in
    let more = procedures_few begins labels in
    let both = length-append (procedure_from 0 begins l) (procedures_at begins labels) in
    omega arith

procedures_split : (begins xs ys : List ℕ) → procedures_at begins (xs ++ ys) ≡ procedures_at begins
    xs ++ procedures_at begins ys
procedures_split begins [] ys = refl
procedures_split begins (x ∷ xs) ys = ap (λ l. procedure_from 0 begins x ++ l)
    (procedures_split begins xs ys) ∙ sym
    (append_assoc (procedure_from 0 begins x) (procedures_at begins xs) (procedures_at begins ys))

module _ (lay : Layout) (items : List Item) (begins : List ℕ) (width cells : ℕ) (input : List ℕ)
    (p : Point) where
  -- the machine does from p what a run does that ends so
  abbrev pub Outcome : World → Answer → Type 0
  Outcome w0 (gives vs w) = Ends lay items begins width cells p [] w0 w 0
  Outcome w0 (stops no_alternative w) = Ends lay items begins width cells p [] w0 w 3
      × Leaves lay items w0.input p
  Outcome w0 (stops heap_full w) = Ends lay items begins width cells p [] w0 w 4
  Outcome w0 (stops stack_full w) = Ends lay items begins width cells p [] w0 w 5
  Outcome w0 (stops out_of_units w) = (q : Point) ×
      ((calls : List ℕ) × (Ran lay items begins p [] w0 q calls w × Waits lay items begins q w))
  Outcome w0 (stops missing w) = ⊥

  -- at the start nothing is written, read or entered
  pub record IsStart (w0 : World) : Type 0 where
    pub input_is : w0.input ≡ input
    pub used_is : w0.used ≡ 0
    pub out_is : w0.out ≡ []
    pub entered_is : w0.entered ≡ []

  module _ (w0 : World) (start : IsStart w0) where
    -- a course that has come to an exit
    exit_course : (w : World) (code : ℕ) (e : Ends lay items begins width cells p [] w0 w code)
        (k : ℕ)
        → course lay items (e.count + k) input p ≡ after e.bytes e.labels
        (stands w.input (Exited code))
    exit_course w code e k = subst
        (λ i. course lay items (e.count + k) i p ≡ after e.bytes e.labels
        (stands w.input (Exited code))) start.input_is (e.way.by k)

    out_bytes : (w : World) (bytes : List ℕ) → w.out ≡ w0.out ++ bytes → w.out ≡ bytes
    out_bytes w bytes e = e ∙ ap (λ x. x ++ bytes) start.out_is

    entered_labels : (w : World) (labels : List ℕ) → w.entered ≡ w0.entered
        ++ procedures_at begins labels → w.entered ≡ procedures_at begins labels
    entered_labels w labels e = e ∙ ap (λ x. x ++ procedures_at begins labels) start.entered_is

    used_all : (w : World) → w.used + length w.input ≡ w0.used + length w0.input
        → length input - length w.input ≡ w.used
    used_all w e =
        let i = ap length start.input_is in
        let z = start.used_is in
        omega arith

    same_end : (w : World) (code : ℕ) (e : Ends lay items begins width cells p [] w0 w code)
        (x : Answer)
        → world_of x ≡ w → SameOutputAndInput input x
        (after e.bytes e.labels (stands w.input (Exited code)))
    same_end w code e x is = (
      sym (end_append e.bytes) ∙ sym (out_bytes w e.bytes e.out) ∙ ap (λ y. y.out) (sym is),
      used_all w e.used ∙ ap (λ y. y.used) (sym is),
    )

    -- ---- arriving

    arrives_exit : (w : World) (code : ℕ) (e : Ends lay items begins width cells p [] w0 w code)
        (x : Answer)
        → world_of x ≡ w → exit_of (end_of x) ≡ Some code
        → ReachesAnswer begins input x (course lay items (e.count + 0) input p)
    arrives_exit w code e x is exit =
        subst (λ c. ReachesAnswer begins input x c) (sym (exit_course w code e 0))
        (record {
          entered = ap (procedures_at begins) (sym (end_append e.labels)) ∙ sym
              (entered_labels w e.labels e.entered) ∙ ap (λ y. y.entered) (sym is);
          output = (
            [],
            ap (λ y. y ++ [])
                (sym (out_bytes w e.bytes e.out) ∙ ap (λ y. y.out) (sym is)),
          );
          ended = subst
              (λ o. Matches input x (after e.bytes e.labels (stands w.input (Exited code))) o)
              (sym exit) (refl, same_end w code e x is);
        })

    pub arrives : (x : Answer) → Outcome w0 x → (k : ℕ)
        × ReachesAnswer begins input x (course lay items k input p)
    arrives (gives vs w) e = (e.count + 0, arrives_exit w 0 e (gives vs w) refl refl)
    arrives (stops no_alternative w) e =
        (e.0.count + 0, arrives_exit w 3 e.0 (stops no_alternative w) refl refl)
    arrives (stops heap_full w) e = (e.count + 0, arrives_exit w 4 e (stops heap_full w) refl refl)
    arrives (stops stack_full w) e =
        (e.count + 0, arrives_exit w 5 e (stops stack_full w) refl refl)
    arrives (stops out_of_units w) h =
        let r = h.1.1.0 in
        let c = stands w.input (Going h.0) in
        let along = subst
        (λ i. course lay items (r.count + 0) i p ≡ after r.bytes r.labels
        (course lay items 0 w.input h.0)) start.input_is (r.way.by 0) in
        let is : course lay items (r.count + 0) input p ≡ after r.bytes r.labels c
        = along ∙ ap (after r.bytes r.labels) (course_none lay items w.input h.0) in (
          r.count + 0,
          subst (λ c. ReachesAnswer begins input (stops out_of_units w) c) (sym is) (record {
            entered = ap (procedures_at begins) (sym (end_append r.labels)) ∙ sym
                (entered_labels w r.labels r.entered);
            output = ([], ap (λ x. x ++ []) (sym (out_bytes w r.bytes r.out)));
            ended = tt;
          }),
        )
    arrives (stops missing w) e = absurd e

    -- ---- following

    -- a front of a course that has written, passed and read just what a run has
    follows_front : (x : Answer) (bytes labels : List ℕ) (c whole : Course)
        → (world_of x).out ≡ bytes → (world_of x).entered ≡ procedures_at begins labels
        → length (world_of x).entered ≤ length (procedures_at begins c.passed)
        → whole.out ≡ bytes → whole.passed ≡ labels
        → length input - length whole.left ≤ (world_of x).used → IsFront c whole
        → EndsLikeRun input x c c.end → Follows begins input x c
    follows_front x bytes labels c whole out entered few whole_out whole_passed used f finish
        = record {
          entered =
              let split : procedures_at begins labels ≡ procedures_at begins c.passed
              ++ procedures_at begins f.labels = ap (procedures_at begins)
              (sym whole_passed ∙ f.passed) ∙ procedures_split begins c.passed f.labels in
              let count = ap length (entered ∙ split) ∙ length-append
              (procedures_at begins c.passed)
              (procedures_at begins f.labels) in
              let none : procedures_at begins f.labels ≡ []
              = is_empty (procedures_at begins f.labels) (omega arith) in
              sym (entered ∙ split ∙ ap (λ l. procedures_at begins c.passed ++ l) none ∙ sym
              (end_append (procedures_at begins c.passed)));
          output = (f.bytes, out ∙ sym whole_out ∙ f.out);
          used = let less = f.left in omega arith;
          finish = finish;
        }

    -- an ended course is as it was
    front_exit : (x : Answer) (code : ℕ) (c whole : Course) → exit_of (end_of x) ≡ Some code
        → whole.end ≡ Exited code → SameOutputAndInput input x whole → IsFront c whole
        → EndsLikeRun input x c c.end
    front_exit x code c whole exit end same f = elim f.ended [
      | inl g ↦ subst (λ e. EndsLikeRun input x c e) (sym g.1) tt
      | inr is ↦ subst (λ y. EndsLikeRun input x y y.end) is
          (subst (λ e. EndsLikeRun input x whole e) (sym end) (exit, same))
    ]

    front_going : (x : Answer) (q : Point) (c whole : Course) → whole.end ≡ Going q
        → IsFront c whole → EndsLikeRun input x c c.end
    front_going x q c whole end f = elim f.ended [
      | inl g ↦ subst (λ e. EndsLikeRun input x c e) (sym g.1) tt
      | inr is ↦ subst (λ y. EndsLikeRun input x y y.end) is
          (subst (λ e. EndsLikeRun input x whole e) (sym end) tt)
    ]

    front_of : (k count : ℕ) → k ≤ count → IsFront (course lay items k input p)
        (course lay items count input p)
    front_of k count le =
        let e : k + (count - k) ≡ count = omega arith in
        subst (λ n. IsFront (course lay items k input p) (course lay items n input p)) e
        (course_front lay items k (count - k) input p)

    follows_exit : (w : World) (code k : ℕ) (e : Ends lay items begins width cells p [] w0 w code)
        (x : Answer)
        → world_of x ≡ w → exit_of (end_of x) ≡ Some code
        → length w.entered ≤ length (procedures_at begins (course lay items k input p).passed)
        → Follows begins input x (course lay items k input p)
    follows_exit w code k e x is exit few =
        let whole = after e.bytes e.labels (stands w.input (Exited code)) in
        let front : IsFront (course lay items k input p) whole = elim (le_or_lt k e.count) [
          | inl le ↦
              let zero_more : e.count + 0 ≡ e.count = omega arith in
              subst (λ c. IsFront (course lay items k input p) c)
              (ap (λ n. course lay items n input p) (sym zero_more) ∙ exit_course w code e 0)
              (front_of k e.count le)
          | inr lt ↦
              let d : e.count + (k - e.count) ≡ k = omega arith in
              let here : course lay items k input p ≡ whole
              = ap (λ n. course lay items n input p) (sym d) ∙ exit_course w code e
              (k - e.count) in
              subst (λ c. IsFront c whole) (sym here) (front_itself whole)
        ] in
        follows_front x e.bytes e.labels (course lay items k input p) whole
        (ap (λ y. y.out) is ∙ out_bytes w e.bytes e.out)
        (ap (λ y. y.entered) is ∙ entered_labels w e.labels e.entered)
        (let y = ap (λ y. length y.entered) is in omega arith)
        (sym (end_append e.bytes)) (sym (end_append e.labels))
        (let u = used_all w e.used in let y = ap (λ y. y.used) is in omega arith) front
        (front_exit x code (course lay items k input p) whole exit refl (same_end w code e x is)
        front)

    -- a procedure's label is passed by the first item from it on
    passes_proc : (q : Point) (proc d : ℕ) (left : List ℕ)
        → slice_get items q.item ≡ Some (Label proc) → procedure_from 0 begins proc ≡ proc ∷ []
        → 1 ≤ length (procedures_at begins (course lay items (suc d) left q).passed)
    passes_proc q proc d left here is =
        let c = onward lay items (course lay items d) left q (turn lay items q) in
        let passed : (course lay items (suc d) left q).passed ≡ proc ∷ c.passed
        = ap (λ y. y.passed) (course_more lay items d left q) ∙ ap (λ o. label_of o ++ c.passed)
        here in
        let procedures : procedures_at begins (course lay items (suc d) left q).passed ≡ (proc ∷ [])
        ++ procedures_at begins c.passed = ap (procedures_at begins) passed ∙ ap
        (λ l. l ++ procedures_at begins c.passed) is in
        let count = ap length procedures in
        omega arith

    follows_waits : (w : World) (k : ℕ) (q : Point) (calls : List ℕ)
        (r : Ran lay items begins p [] w0 q calls w) → Waits lay items begins q w
        → length w.entered ≡ length (procedures_at begins (course lay items k input p).passed)
        → Follows begins input (stops out_of_units w) (course lay items k input p)
    follows_waits w k q calls r waits count =
        let x = stops out_of_units w in
        let whole = course lay items r.count input p in
        let along = λ (n : ℕ). subst
        (λ i. course lay items (r.count + n) i p ≡ after r.bytes r.labels
        (course lay items n w.input q)) start.input_is (r.way.by n) in
        let zero_more : r.count + 0 ≡ r.count = omega arith in
        let at_end : course lay items r.count input p ≡ after r.bytes r.labels
        (stands w.input (Going q)) = ap (λ n. course lay items n input p) (sym zero_more) ∙
        along 0 ∙ ap (after r.bytes r.labels) (course_none lay items w.input q) in
        elim (le_or_lt k r.count) [
          | inl le ↦
              let front = subst (λ c. IsFront (course lay items k input p) c) at_end
              (front_of k r.count le) in
              follows_front x r.bytes r.labels (course lay items k input p)
              (after r.bytes r.labels (stands w.input (Going q))) (out_bytes w r.bytes r.out)
              (entered_labels w r.labels r.entered) (omega arith)
              (sym (end_append r.bytes)) (sym (end_append r.labels))
              (let u = used_all w r.used in omega arith) front
              (front_going x q (course lay items k input p)
              (after r.bytes r.labels (stands w.input (Going q))) refl front)
          | inr lt ↦
              let d : r.count + suc (k - suc r.count) ≡ k = omega arith in
              let c = course lay items (suc (k - suc r.count)) w.input q in
              let here : course lay items k input p ≡ after r.bytes r.labels c
              = ap (λ n. course lay items n input p) (sym d) ∙ along (suc (k - suc r.count)) in
              let more = passes_proc q waits.proc (k - suc r.count) w.input waits.stands
              waits.is_procedure in
              let passed = ap (λ y. length (procedures_at begins y.passed)) here ∙ ap length
              (procedures_split begins r.labels c.passed) ∙ length-append
              (procedures_at begins r.labels) (procedures_at begins c.passed) in
              let entered = ap length (entered_labels w r.labels r.entered) in
              absurd (omega arith)
        ]

    pub follows : (k : ℕ) (x : Answer) → Outcome w0 x
        → length (world_of x).entered + (world_of x).left ≡ length
        (procedures_at begins (course lay items k input p).passed)
        → Follows begins input x (course lay items k input p)
    follows k (gives vs w) e count = follows_exit w 0 k e (gives vs w) refl refl (omega arith)
    follows k (stops no_alternative w) e count = follows_exit w 3 k e.0 (stops no_alternative w)
        refl refl (omega arith)
    follows k (stops heap_full w) e count = follows_exit w 4 k e (stops heap_full w) refl refl
        (omega arith)
    follows k (stops stack_full w) e count = follows_exit w 5 k e (stops stack_full w) refl refl
        (omega arith)
    follows k (stops out_of_units w) h count = let none = h.1.1.1.spent
        in follows_waits w k h.0 h.1.0 h.1.1.0 h.1.1.1 (omega arith)
    follows k (stops missing w) e count = absurd e

    -- ---- going home

    home_exit : (w : World) (code k : ℕ) (e : Ends lay items begins width cells p [] w0 w code)
        → ReturnsHome lay items k input p []
    home_exit w code k e =
        let both : e.count + k ≡ k + e.count = omega arith in
        home_front lay items k e.count input p []
        (subst (λ n. ReturnsHome lay items n input p []) both
        (subst (λ i. ReturnsHome lay items (e.count + k) i p []) start.input_is (e.way.home k)))

    nothing_home : (left : List ℕ) (q : Point) (calls : List ℕ)
        → ReturnsHome lay items 0 left q calls
    unfolding ReturnsHome
    nothing_home left q calls = tt

    -- with k units
    pub home : (k : ℕ) (x : Answer) → Outcome w0 x → length (world_of x).entered + (world_of x).left
        ≡ k → ReturnsHome lay items k input p []
    home k (gives vs w) e count = home_exit w 0 k e
    home k (stops no_alternative w) e count = home_exit w 3 k e.0
    home k (stops heap_full w) e count = home_exit w 4 k e
    home k (stops stack_full w) e count = home_exit w 5 k e
    home k (stops out_of_units w) h count =
        let r = h.1.1.0 in
        let none = h.1.1.1.spent in
        let zero_more : r.count + 0 ≡ r.count = omega arith in
        let whole : ReturnsHome lay items r.count input p []
        = subst (λ n. ReturnsHome lay items n input p []) zero_more
        (subst (λ i. ReturnsHome lay items (r.count + 0) i p []) start.input_is
        (r.way.home 0 (nothing_home w.input h.0 h.1.0))) in
        let along = subst
        (λ i. course lay items (r.count + 0) i p ≡ after r.bytes r.labels
        (course lay items 0 w.input h.0)) start.input_is (r.way.by 0) in
        let passed = ap (λ y. length y.passed) along ∙ length-append r.labels
        (course lay items 0 w.input h.0).passed in
        let few = passed_few lay items (r.count + 0) input p in
        let procedures = procedures_few begins r.labels in
        let entered = ap length (entered_labels w r.labels r.entered) in
        let d : k + (r.count - k) ≡ r.count = omega arith in
        home_front lay items k (r.count - k) input p []
        (subst (λ n. ReturnsHome lay items n input p []) (sym d) whole)
    home k (stops missing w) e count = absurd e

    -- ---- leaving

    -- where a run ends with exit 3
    pub leaves : (x : Answer) → Outcome w0 x → exit_of (end_of x) ≡ Some 3
        → Leaves lay items input p
    leaves (gives vs w) e exit = absurd (cc)
    leaves (stops no_alternative w) e exit = subst (λ i. Leaves lay items i p) start.input_is e.1
    leaves (stops heap_full w) e exit = absurd (cc)
    leaves (stops stack_full w) e exit = absurd (cc)
    leaves (stops out_of_units w) e exit = absurd (cc)
    leaves (stops missing w) e exit = absurd e

    -- ---- the next cell

    -- where a run ends with a code, x3 has the address behind its cells
    pub next_cell : (x : Answer) → Outcome w0 x → HasNextCell lay items width cells input p x
    next_cell (gives vs w) e =
        subst (λ i. ExitsBehindCells lay items width cells i p 0 w) start.input_is
        (e.exit (omega arith))
    next_cell (stops no_alternative w) e =
        subst (λ i. ExitsBehindCells lay items width cells i p 3 w) start.input_is
        (e.0.exit (omega arith))
    next_cell (stops heap_full w) e = tt
    next_cell (stops stack_full w) e =
        subst (λ i. ExitsBehindCells lay items width cells i p 5 w) start.input_is
        (e.exit (omega arith))
    next_cell (stops out_of_units w) e = tt
    next_cell (stops missing w) e = tt
