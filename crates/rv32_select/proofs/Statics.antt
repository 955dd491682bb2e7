-- What is known of selected items before they run: they are plain, labels stand once, and the items
-- flow and are few.
use Rattle.std.proofs.Common.{◌≡◌, ℕ, zero, suc, ◌+◌, ◌-◌, ◌*◌, ◌<◌, ◌≤◌, Bool, true, false, List, [], ◌∷◌, ◌++◌, length, drop, Some, None, Option, ◌⊎◌, inl, inr, refl, sym, ap, ◌∙◌, subst, arith, length-append}
use Rattle.std.specs.Prelude.{slice_get, nat_eq, nat_lt, ◌||◌, if◌then◌else◌}
use Rattle.std.specs.List.{range_with_len}
use Rattle.std.proofs.lemmas.Bool.{cases_lt, false≢true}
use Rattle.std.proofs.Math.Seq.{drop-append_seam}
use Rattle.std.proofs.lemmas.List.FromFn.{length-range_with_len}
use Rattle.std.proofs.lemmas.Bool.Decides.{nat_tests}
use Rattle.std.proofs.lemmas.Option.{same_Some}
use Rattle.low_code.specs.Tree.{Program}
use Rattle.low_code.specs.Size.{program_size, calls_of, AtMostTwoTests}
use Rattle.register_alloc.specs.Assignment.{Assignment}
use Rattle.rv32_steps.specs.Trace.{is_one_of, AllDifferent}
use Rattle.rv32_items.specs.declared.Item.{Item}
use Rattle.rv32_items.specs.declared.Item.TheVariants.{Label, Plain, Branch, Jump}
use Rattle.rv32_items.specs.Course.{label_from}
use Rattle.rv32_items.specs.Placed.{is_instruction, size_of, IsPlain, AllPlain, target_of, times, LabelsStand, LabelIsOnlyAt}
use Rattle.rv32_items.specs.Told.{is_call}
use Rattle.rv32_items.specs.Flows.{begins_procedure, NoProcedureBegins, IsForwardTransfer, IsStopItem, HasStructuredFlow}
use Rattle.rv32_items.proofs.Stands.{stands}
use Rattle.rv32_select.specs.IsSelected.{IsSelected}
use Rattle.rv32_select.specs.Selectable.{Selectable}
use Rattle.rv32_select.proofs.Writes.{can_write}
use Rattle.rv32_select.proofs.Flowing.{Inside, Ahead, GoesAt, Goes}
use Rattle.rv32_select.proofs.WholeParts.{Far, Whole, whole, stops, stops_counts}
use Rattle.rv32_items.proofs.Counted.{times_append}

-- ---- the labels of procedures

-- a number is one of so many from f on where it is below their end
one_of_numbers : (f n k : ℕ) → is_one_of (range_with_len f n) k ≡
    (if nat_lt k f then false else nat_lt k (f + n))
one_of_numbers f zero k = grind (arith, nat_tests)
one_of_numbers f (suc n) k =
    let more = one_of_numbers (f + 1) n k in
    ap (λ b. nat_eq k f || b) more ∙ joined
  where
    joined : (nat_eq k f || (if nat_lt k (f + 1) then false else nat_lt k (f + 1 + n))) ≡
        (if nat_lt k f then false else nat_lt k (f + suc n))
    joined = grind (arith, nat_tests)

numbers_different : (f n : ℕ) → AllDifferent (range_with_len f n)
numbers_different f zero = tt
numbers_different f (suc n) = (one_of_numbers (f + 1) n f ∙ before, numbers_different (f + 1) n)
  where
    before : (if nat_lt f (f + 1) then false else nat_lt f (f + 1 + n)) ≡ false
    before = grind (arith, nat_tests)

-- ---- items at their numbers

got_left : (xs ys : List Item) (k : ℕ) → k < length xs → slice_get (xs ++ ys) k ≡ slice_get xs k
got_left [] ys k lt = absurd (omega arith)
got_left (x ∷ xs) ys zero lt = refl
got_left (x ∷ xs) ys (suc k) lt = got_left xs ys k (omega arith)

got_right : (xs ys : List Item) (k n : ℕ) → n ≡ length xs + k
    → slice_get (xs ++ ys) n ≡ slice_get ys k
got_right [] ys k n e = ap (slice_get ys) (omega arith)
got_right (x ∷ xs) ys k zero e = absurd (omega arith)
got_right (x ∷ xs) ys k (suc n) e = got_right xs ys k n (omega arith)

module _ (procs : ℕ) where
  abbrev pub begins : List ℕ
  begins = range_with_len 0 procs

  begin_below : (k : ℕ) → is_one_of begins k ≡ true → k < procs
  begin_below k e = let is = one_of_numbers 0 procs k in grind (arith, nat_tests)

  begin_of : (k : ℕ) → k < procs → is_one_of begins k ≡ true
  begin_of k lt = one_of_numbers 0 procs k ∙ grind (arith, nat_tests)

  no_begin : (k : ℕ) → procs ≤ k → is_one_of begins k ≡ false
  no_begin k le = one_of_numbers 0 procs k ∙ grind (arith, nat_tests)

  -- no procedure begins at items without their labels
  inside_no_begin : (items : List Item) (k : ℕ) → Inside procs items
      → begins_procedure begins (slice_get items k) ≡ false
  inside_no_begin [] k h = refl
  inside_no_begin (Label j ∷ items) zero h = no_begin j h.0
  inside_no_begin (Label j ∷ items) (suc k) h = inside_no_begin items k h.1
  inside_no_begin (Plain i ∷ items) zero h = refl
  inside_no_begin (Plain i ∷ items) (suc k) h = inside_no_begin items k h
  inside_no_begin (Branch c a b j ∷ items) zero h = refl
  inside_no_begin (Branch c a b j ∷ items) (suc k) h = inside_no_begin items k h
  inside_no_begin (Jump r j ∷ items) zero h = refl
  inside_no_begin (Jump r j ∷ items) (suc k) h = inside_no_begin items k h

  -- where a label ahead stands, with no procedure that begins before it or there
  record Found (l : ℕ) (items : List Item) : Type 0 where
    pub at : ℕ
    pub here : slice_get items at ≡ Some (Label l)
    pub none : (q : ℕ) → q ≤ at → begins_procedure begins (slice_get items q) ≡ false

  further_on : (l : ℕ) (i : Item) (items : List Item) → begins_procedure begins (Some i) ≡ false
      → Found l items → Found l (i ∷ items)
  further_on l i items other f = record { at = suc f.at; here = f.here; none = none }
    where
      none : (q : ℕ) → q ≤ suc f.at → begins_procedure begins (slice_get (i ∷ items) q) ≡ false
      none zero le = other
      none (suc q) le = f.none q (omega (arith, le))

  found : (l : ℕ) (items : List Item) → Ahead procs l items → Found l items
  found l [] h = absurd h
  found l (Label k ∷ items) h = elim h.1 [
    | inl e ↦ record { at = 0; here = ap (λ j. Some (Label j)) e; none = first }
    | inr more ↦ further_on l (Label k) items (no_begin k h.0) (found l items more)
  ]
    where
      first : (q : ℕ) → q ≤ 0 → begins_procedure begins (slice_get (Label k ∷ items) q) ≡ false
      first zero le = no_begin k h.0
      first (suc q) le = absurd (omega (arith, le))
  found l (Plain i ∷ items) h = further_on l (Plain i) items refl (found l items h)
  found l (Branch c a b k ∷ items) h = further_on l (Branch c a b k) items refl (found l items h)
  found l (Jump r k ∷ items) h = further_on l (Jump r k) items refl (found l items h)

  -- the items behind one
  record Behind (Far : ℕ → Type 0) (items : List Item) (n : ℕ) (i : Item) : Type 0 where
    pub rest : List Item
    pub at : (k : ℕ) → slice_get items (suc (n + k)) ≡ slice_get rest k
    pub goes : GoesAt procs Far i rest

  behind : (Far : ℕ → Type 0) (items : List Item) (n : ℕ) (i : Item) → Goes procs Far items
      → slice_get items n ≡ Some i → Behind Far items n i
  behind Far [] n i g e = absurd (cc)
  behind Far (j ∷ items) zero i g e = record {
    rest = items;
    at = λ k. ap (slice_get items) (omega arith);
    goes = subst (λ x. GoesAt procs Far x items) (same_Some _ _ e) g.0;
  }
  behind Far (j ∷ items) (suc n) i g e =
      let more = behind Far items n i g.1 e in
      record {
        rest = more.rest;
        at = λ k. ap (slice_get items) (omega arith) ∙ more.at k;
        goes = more.goes;
      }

-- ---- labels that stand

counted_more : (b : Bool) (n : ℕ) → n ≤ (if b then suc n else n)
counted_more true n = omega arith
counted_more false n = omega arith

counted_here : (b : Bool) (n : ℕ) → b ≡ true → 1 ≤ (if b then suc n else n)
counted_here true n e = omega arith
counted_here false n e = absurd (cc)

label_stands : (items : List Item) (n k : ℕ) → slice_get items n ≡ Some (Label k)
    → 1 ≤ times k items
label_stands [] n k e = absurd (cc)
label_stands (Label j ∷ items) zero k e =
    let same : j ≡ k = cc in
    counted_here (nat_eq j k) (times k items) (grind (arith, nat_tests))
label_stands (Label j ∷ items) (suc n) k e =
    let more = label_stands items n k e in
    let step = counted_more (nat_eq j k) (times k items) in
    omega (arith, more, step)
label_stands (Plain i ∷ items) zero k e = absurd (cc)
label_stands (Plain i ∷ items) (suc n) k e = label_stands items n k e
label_stands (Branch c a b j ∷ items) zero k e = absurd (cc)
label_stands (Branch c a b j ∷ items) (suc n) k e = label_stands items n k e
label_stands (Jump r j ∷ items) zero k e = absurd (cc)
label_stands (Jump r j ∷ items) (suc n) k e = label_stands items n k e

-- ---- stops

abbrev AllStop : List Item → Type 0
AllStop [] = Unit {0}
AllStop (i ∷ is) = IsStopItem i × AllStop is

stop_at : (items : List Item) (n : ℕ) (i : Item) → AllStop items → slice_get items n ≡ Some i
    → IsStopItem i
stop_at [] n i h e = absurd (cc)
stop_at (j ∷ items) zero i h e = subst IsStopItem (same_Some _ _ e) h.0
stop_at (j ∷ items) (suc n) i h e = stop_at items n i h.1 e

stop_has_no_target : (i : Item) (k : ℕ) → IsStopItem i → target_of i ≡ Some k → ⊥
stop_has_no_target (Label j) k h e = cc
stop_has_no_target (Plain i) k h e = cc
stop_has_no_target (Branch c a b j) k h e = h
stop_has_no_target (Jump r j) k h e = h

module _ (l : Program) (a : Assignment) (cells stack : ℕ) where
  abbrev procs : ℕ
  procs = length l.procs

  abbrev far : ℕ → Type 0
  far = Far l a cells stack

  abbrev stop : List Item
  stop = stops l a cells stack

  all_stop : AllStop stop
  all_stop =
      (tt, (refl, (refl, (refl, (tt, (refl, (refl, (refl, (tt, (refl, (refl, (refl, tt))))))))))))

  inside_stop : Inside procs stop
  inside_stop = (omega arith, (omega arith, (omega arith, tt)))

  far_below : (k : ℕ) → far k → k < 3 + procs
  far_below k (inl lt) = lt
  far_below k (inr h) = absurd h

  is_plain : (i : Item) (rest : List Item) → GoesAt procs far i rest → IsPlain i
  is_plain (Label k) rest h = tt
  is_plain (Plain i) rest h = h
  is_plain (Branch c a b k) rest h = tt
  is_plain (Jump r k) rest h = tt

  reached : (i : Item) (rest : List Item) (k : ℕ) → GoesAt procs far i rest → target_of i ≡ Some k
      → Ahead procs k rest ⊎ far k
  reached (Label j) rest k h e = absurd (cc)
  reached (Plain i) rest k h e = absurd (cc)
  reached (Branch c a b j) rest k h e = subst (λ x. Ahead procs x rest ⊎ far x) (same_Some _ _ e) h
  reached (Jump r j) rest k h e = subst (λ x. Ahead procs x rest ⊎ far x) (same_Some _ _ e) h.0

  call_begins : (i : Item) (rest : List Item) (k : ℕ) → GoesAt procs far i rest
      → is_call (Some i) ≡ true → target_of i ≡ Some k → k < procs
  call_begins (Label j) rest k h c e = absurd (cc)
  call_begins (Plain i) rest k h c e = absurd (cc)
  call_begins (Branch c a b j) rest k h d e = absurd (cc)
  call_begins (Jump r j) rest k h c e = subst (λ x. x < procs) (same_Some _ _ e) (h.1 c)

  module _ (items : List Item) (w : Whole l a cells stack items) where
    abbrev front : ℕ
    front = length w.front

    at_stops : (n : ℕ) → front ≤ n → slice_get items n ≡ slice_get stop (n - front)
    at_stops n le = ap (λ is. slice_get is n) w.is ∙ got_right w.front stop (n - front) n
        (omega (arith, le))

    label_once : (n k : ℕ) → slice_get items n ≡ Some (Label k) → times k items ≡ 1
    label_once n k e = let some = label_stands items n k e in let c = w.counts k
        in grind (arith, nat_tests)

    below_once : (k : ℕ) → k < 3 + procs → times k items ≡ 1
    below_once k lt = let c = w.counts k in let up = w.up in let before : k < w.last = omega arith
        in grind (arith, nat_tests)

    reached_once : (n k : ℕ) (i : Item) → slice_get items n ≡ Some i → target_of i ≡ Some k
        → times k items ≡ 1
    reached_once n k i e target =
        let b = behind procs far items n i w.goes e in
        elim (reached i b.rest k b.goes target) [
          | inl ahead ↦ let f = found procs k b.rest ahead
              in label_once (suc (n + f.at)) k (b.at f.at ∙ f.here)
          | inr h ↦ below_once k (far_below k h)
        ]

    -- a label is found where it stands
    label_found : (t k : ℕ) → slice_get items t ≡ Some (Label k) → label_from 0 items k ≡ Some t
    label_found t k e = let s = stands k items (label_once t k e)
        in s.1.0 ∙ ap (λ n. Some n) (sym (s.1.1.once t e))

    all_plain : AllPlain items
    all_plain n i e = let b = behind procs far items n i w.goes e in is_plain i b.rest b.goes

    labels_stand : LabelsStand items
    labels_stand n k i e target = reached_once n k i e target

    begins_stand : (b : ℕ) → is_one_of (begins procs) b ≡ true → times b items ≡ 1
    begins_stand b e = let lt = begin_below procs b e in below_once b (omega (arith, lt))

    begins_before : (n : ℕ) → begins_procedure (begins procs) (slice_get items n) ≡ true → n < front
    begins_before n e = elim (cases_lt n front) [
      | inl lt ↦ lt
      | inr le ↦
          let none = inside_no_begin procs stop (n - front) inside_stop in
          let here = ap (begins_procedure (begins procs)) (at_stops n le) in
          absurd (false≢true (sym none ∙ sym here ∙ e))
    ]

    all_stops : (n : ℕ) (i : Item) → front ≤ n → slice_get items n ≡ Some i → IsStopItem i
    all_stops n i le e = stop_at stop (n - front) i all_stop (sym (at_stops n le) ∙ e)

    target_before : (n k : ℕ) (i : Item) → slice_get items n ≡ Some i → target_of i ≡ Some k
        → n < front
    target_before n k i e target = elim (cases_lt n front) [
      | inl lt ↦ lt
      | inr le ↦ absurd (stop_has_no_target i k (all_stops n i le e) target)
    ]

    -- the label of a stop stands behind all procedures
    stop_behind : (k t : ℕ) → procs ≤ k → k < 3 + procs → slice_get items t ≡ Some (Label k)
        → front ≤ t
    stop_behind k t le lt e = elim (cases_lt t front) [
      | inl before ↦
          let first = label_stands w.front t k
          (sym (got_left w.front stop t before) ∙ ap (λ is. slice_get is t) (sym w.is) ∙ e) in
          let second : times k stop ≡ 1 = let c = stops_counts l a cells stack k
          in grind (arith, nat_tests) in
          let once = below_once k lt in
          let both : times k items ≡ times k w.front + times k stop
          = ap (times k) w.is ∙ times_append k w.front stop in
          absurd (omega arith)
      | inr behind ↦ behind
    ]

    behind_begin : (n : ℕ) (o : Option Item) → slice_get items n ≡ o
        → begins_procedure (begins procs) o ≡ true → is_instruction (slice_get items (suc n)) ≡ true
    behind_begin n None e h = absurd (cc)
    behind_begin n (Some (Label k)) e h =
        let b = behind procs far items n (Label k) w.goes e in
        let same : suc n ≡ suc (n + 0) = omega arith in
        ap (λ i. is_instruction (slice_get items i)) same ∙ ap is_instruction (b.at 0) ∙ b.goes
        (begin_below procs k h)
    behind_begin n (Some (Plain i)) e h = absurd (cc)
    behind_begin n (Some (Branch c p q k)) e h = absurd (cc)
    behind_begin n (Some (Jump r k)) e h = absurd (cc)

    goes_ahead : (n k t : ℕ) (rest : List Item) →
        ((j : ℕ) → slice_get items (suc (n + j)) ≡ slice_get rest j) → LabelIsOnlyAt items k t
        → Found procs k rest → (n < t) × NoProcedureBegins (begins procs) items (suc n) t
    goes_ahead n k t rest at s f =
        let place : suc (n + f.at) ≡ t = s.once (suc (n + f.at)) (at f.at ∙ f.here) in
        (omega arith, none)
      where
        none : NoProcedureBegins (begins procs) items (suc n) t
        none q from to =
            let place : suc (n + f.at) ≡ t = s.once (suc (n + f.at)) (at f.at ∙ f.here) in
            let same : q ≡ suc (n + (q - suc n)) = omega arith in
            ap (λ j. begins_procedure (begins procs) (slice_get items j)) same ∙ ap
            (begins_procedure (begins procs)) (at (q - suc n)) ∙ f.none (q - suc n)
            (omega arith)

    goes_on : (n k t : ℕ) (i : Item) → slice_get items n ≡ Some i → target_of i ≡ Some k
        → label_from 0 items k ≡ Some t → IsForwardTransfer (begins procs) items front n t
    goes_on n k t i e target at =
        let s = stands k items (reached_once n k i e target) in
        let same : s.0 ≡ t = same_Some _ _ (sym s.1.0 ∙ at) in
        let standing = subst (LabelIsOnlyAt items k) same s.1.1 in
        let b = behind procs far items n i w.goes e in
        elim (reached i b.rest k b.goes target) [
          | inl ahead ↦ inl (goes_ahead n k t b.rest b.at standing (found procs k b.rest ahead))
          | inr h ↦ elim (cases_lt k procs) [
            | inl lt ↦ inr
                (inl (ap (begins_procedure (begins procs)) standing.here ∙ begin_of procs k lt))
            | inr le ↦
                let place = stop_behind k t le (far_below k h) standing.here in
                let before = target_before n k i e target in
                inr (inr (omega (arith, before, place), place))
          ]
        ]

    flows : HasStructuredFlow (begins procs) items
    flows = record {
      stops = front;
      procedures_before = begins_before;
      first_stop = (
        procs,
        at_stops front (omega arith) ∙ ap (slice_get stop)
            (let e : front - front ≡ 0 = omega arith in e),
      );
      all_stop = all_stops;
      instruction_behind = λ n h. behind_begin n (slice_get items n) refl h;
      goes_on = goes_on;
      calls = λ n k i e call target. let b = behind procs far items n i w.goes e
          in begin_of procs k (call_begins i b.rest k b.goes call target);
    }

-- what selected items are, besides what they do: a procedure's label is its number
pub record SelectedStatics (l : Program) (items : List Item) : Type 0 where
  pub one_each : length (begins (length l.procs)) ≡ length l.procs
  pub different : AllDifferent (begins (length l.procs))
  pub stand : (b : ℕ) → is_one_of (begins (length l.procs)) b ≡ true → times b items ≡ 1
  pub plain : AllPlain items
  pub labels : LabelsStand items
  pub some_item : (n : ℕ) × (is_instruction (slice_get items n) ≡ true)
  pub flows : HasStructuredFlow (begins (length l.procs)) items
  pub last : length items ≡ flows.stops + 12
  pub nine_stop : size_of (drop flows.stops items) ≡ 9
  pub few : AtMostTwoTests l → size_of items ≤ 64 * (length l.procs + length l.globals + 1) + 8 *
      program_size l + 256 * calls_of l

pub selected_statics : (l : Program) (a : Assignment) (cells stack : ℕ) (items : List Item)
    → Selectable l a cells stack → IsSelected l a cells stack items → SelectedStatics l items
unfolding flows
selected_statics l a cells stack items s is =
    let w = whole l a cells stack items (can_write l a cells stack s).0 is in
    record {
      one_each = length-range_with_len 0 (length l.procs);
      different = numbers_different 0 (length l.procs);
      stand = begins_stand l a cells stack items w;
      plain = all_plain l a cells stack items w;
      labels = labels_stand l a cells stack items w;
      some_item = (0, w.first);
      flows = flows l a cells stack items w;
      last = ap length w.is ∙ length-append w.front (stop l a cells stack);
      nine_stop = ap (λ is. size_of (drop (length w.front) is)) w.is ∙ ap size_of
          (drop-append_seam w.front (stop l a cells stack));
      few = w.size;
    }

-- each label of selected items is found where it stands
pub selected_found : (l : Program) (a : Assignment) (cells stack : ℕ) (items : List Item)
    → Selectable l a cells stack → IsSelected l a cells stack items
    → (t k : ℕ) → slice_get items t ≡ Some (Label k) → label_from 0 items k ≡ Some t
selected_found l a cells stack items s is = label_found l a cells stack items
    (whole l a cells stack items (can_write l a cells stack s).0 is)
