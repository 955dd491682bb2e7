-- Stretches of a course: from one point to another, to an exit, and what a longer course has of a
-- shorter one.
use Rattle.std.proofs.Common.{◌≡◌, ℕ, zero, suc, ◌+◌, List, [], ◌∷◌, ◌++◌, length, drop, Some, refl, sym, ap, ◌∙◌, subst, arith, append_assoc}
use Rattle.std.specs.Prelude.{true, false, slice_get}
use Rattle.rv32_machine.specs.Steps.{given}
use Rattle.rv32_items.specs.declared.Item.{Item}
use Rattle.rv32_items.specs.Course.{Layout, Point, Next, Written, Asked, Ended, turn, behind, state_at, Going, Exited, Course, stands, after, onward, course, label_of}
use Rattle.rv32_items.specs.Told.{is_call, returns, home_by, home_to, ReturnsHome}

-- these items stand from the n-th on
abbrev pub Stands : List Item → ℕ → List Item → Type 0
Stands items n [] = Unit {0}
Stands items n (i ∷ is) = (slice_get items n ≡ Some i) × Stands items (suc n) is

pub front : (items : List Item) (n : ℕ) (a b : List Item) → Stands items n (a ++ b)
    → Stands items n a
front items n [] b h = tt
front items n (i ∷ a) b h = (h.0, front items (suc n) a b h.1)

pub back : (items : List Item) (n : ℕ) (a b : List Item) → Stands items n (a ++ b)
    → Stands items (n + length a) b
back items n [] b h = let e : n ≡ n + 0 = omega arith in subst (λ m. Stands items m b) e h
back items n (i ∷ a) b h =
    let e : suc n + length a ≡ n + length (i ∷ a) = omega arith in
    subst (λ m. Stands items m b) e (back items (suc n) a b h.1)

pub after_nothing : (c : Course) → after [] [] c ≡ c
after_nothing c = refl

pub after_after : (v w l m : List ℕ) (c : Course) → after v l (after w m c) ≡ after (v ++ w)
    (l ++ m) c
after_after v w l m c = λ i. record {
  out = sym (append_assoc v w c.out) i;
  left = c.left;
  passed = sym (append_assoc l m c.passed) i;
  end = c.end;
}

module _ (lay : Layout) (items : List Item) where
  pub course_more : (n : ℕ) (input : List ℕ) (p : Point)
      → course lay items (suc n) input p ≡ after [] (label_of (slice_get items p.item))
      (onward lay items (course lay items n) input p (turn lay items p))
  unfolding course
  course_more n input p = refl

  pub course_none : (input : List ℕ) (p : Point) → course lay items zero input p ≡ stands input
      (Going p)
  unfolding course
  course_none input p = refl

  pub home_more : (n : ℕ) (input : List ℕ) (p : Point) (calls : List ℕ)
      → ReturnsHome lay items (suc n) input p calls ≡ home_to lay items
      (λ i q c. ReturnsHome lay items n i q c) input p calls (turn lay items p)
  unfolding ReturnsHome
  home_more n input p calls = refl

  -- in k items from p to q: with these bytes written, these labels passed and this input left, and
  -- with these calls open before
  -- and after it
  pub record Goes (k : ℕ) (input : List ℕ) (p : Point) (calls bytes labels left : List ℕ)
      (q : Point) (calls' : List ℕ) : Type 0 where
    pub by : (n : ℕ) → course lay items (k + n) input p ≡ after bytes labels
        (course lay items n left q)
    pub home : (n : ℕ) → ReturnsHome lay items n left q calls'
        → ReturnsHome lay items (k + n) input p calls

  -- in k items from p to an exit
  pub record Exits (k : ℕ) (input : List ℕ) (p : Point) (calls bytes labels left : List ℕ)
      (code : ℕ) : Type 0 where
    pub by : (n : ℕ) → course lay items (k + n) input p ≡ after bytes labels
        (stands left (Exited code))
    pub home : (n : ℕ) → ReturnsHome lay items (k + n) input p calls

  pub stays : (input : List ℕ) (p : Point) (calls : List ℕ)
      → Goes 0 input p calls [] [] input p calls
  stays input p calls = record {
    by = λ n. let e : 0 + n ≡ n = omega arith in ap (λ m. course lay items m input p) e;
    home = λ n h. let e : n ≡ 0 + n = omega arith in subst
        (λ m. ReturnsHome lay items m input p calls) e h;
  }

  pub goes : {j k : ℕ} {input middle left : List ℕ} {p q r : Point} {c d e v w l m : List ℕ}
      → Goes j input p c v l middle q d → Goes k middle q d w m left r e
      → Goes (j + k) input p c (v ++ w) (l ++ m) left r e
  goes {j} {k} {input} {middle} {left} {p} {q} {r} {c} {d} {e} {v} {w} {l} {m} a b = record {
    by = λ n.
        let count : (j + k) + n ≡ j + (k + n) = omega arith in
        ap (λ x. course lay items x input p) count ∙ a.by (k + n) ∙ ap (after v l) (b.by n) ∙
        after_after v w l m (course lay items n left r);
    home = λ n h.
        let count : j + (k + n) ≡ (j + k) + n = omega arith in
        subst (λ x. ReturnsHome lay items x input p c) count (a.home (k + n) (b.home n h));
  }

  pub exits : {j k code : ℕ} {input middle left : List ℕ} {p q : Point} {c d v w l m : List ℕ}
      → Goes j input p c v l middle q d → Exits k middle q d w m left code
      → Exits (j + k) input p c (v ++ w) (l ++ m) left code
  exits {j} {k} {code} {input} {middle} {left} {p} {q} {c} {d} {v} {w} {l} {m} a b = record {
    by = λ n.
        let count : (j + k) + n ≡ j + (k + n) = omega arith in
        ap (λ x. course lay items x input p) count ∙ a.by (k + n) ∙ ap (after v l) (b.by n) ∙
        after_after v w l m (stands left (Exited code));
    home = λ n.
        let count : j + (k + n) ≡ (j + k) + n = omega arith in
        subst (λ x. ReturnsHome lay items x input p c) count (a.home (k + n) (b.home n));
  }

  -- ---- one item

  -- one that is neither a call nor a return goes on
  pub one_on : (p q : Point) (input calls : List ℕ) → turn lay items p ≡ Next q
      → is_call (slice_get items p.item) ≡ false → returns (slice_get items p.item) ≡ false
      → Goes 1 input p calls [] (label_of (slice_get items p.item)) input q calls
  one_on p q input calls e no_call no_return = record {
    by = λ n.
        let labels = label_of (slice_get items p.item) in
        let count : 1 + n ≡ suc n = omega arith in
        ap (λ m. course lay items m input p) count ∙ course_more n input p
        ∙ ap (λ t. after [] labels (onward lay items (course lay items n) input p t)) e;
    home = λ n h.
        let count : suc n ≡ 1 + n = omega arith in
        let rest = λ (i : List ℕ) (r : Point) (c : List ℕ). ReturnsHome lay items n i r c in
        let here : home_by lay items (rest input) p.item calls (is_call (slice_get items p.item))
        (returns (slice_get items p.item)) q =
        subst (λ b. home_by lay items (rest input) p.item calls b (returns (slice_get items p.item))
        q) (sym no_call)
        (subst (λ b. home_by lay items (rest input) p.item calls false b q) (sym no_return) h) in
        subst (λ m. ReturnsHome lay items m input p calls) count
        (subst (λ (T : Type 0). T) (sym (home_more n input p calls))
        (subst (λ t. home_to lay items rest input p calls t) (sym e) here));
  }

  -- a call opens one
  pub one_call : (p q : Point) (input calls : List ℕ) → turn lay items p ≡ Next q
      → is_call (slice_get items p.item) ≡ true → Goes 1 input p calls []
      (label_of (slice_get items p.item)) input q (suc p.item ∷ calls)
  one_call p q input calls e call = record {
    by = λ n.
        let labels = label_of (slice_get items p.item) in
        let count : 1 + n ≡ suc n = omega arith in
        ap (λ m. course lay items m input p) count ∙ course_more n input p
        ∙ ap (λ t. after [] labels (onward lay items (course lay items n) input p t)) e;
    home = λ n h.
        let count : suc n ≡ 1 + n = omega arith in
        let rest = λ (i : List ℕ) (r : Point) (c : List ℕ). ReturnsHome lay items n i r c in
        let here : home_by lay items (rest input) p.item calls (is_call (slice_get items p.item))
        (returns (slice_get items p.item)) q =
        subst (λ b. home_by lay items (rest input) p.item calls b (returns (slice_get items p.item))
        q) (sym call) h in
        subst (λ m. ReturnsHome lay items m input p calls) count
        (subst (λ (T : Type 0). T) (sym (home_more n input p calls))
        (subst (λ t. home_to lay items rest input p calls t) (sym e) here));
  }

  -- a return closes the last one
  pub one_return : (p q : Point) (input calls : List ℕ) → turn lay items p ≡ Next q
      → is_call (slice_get items p.item) ≡ false → returns (slice_get items p.item) ≡ true
      → Goes 1 input p (q.item ∷ calls) [] (label_of (slice_get items p.item)) input q calls
  one_return p q input calls e no_call return = record {
    by = λ n.
        let labels = label_of (slice_get items p.item) in
        let count : 1 + n ≡ suc n = omega arith in
        ap (λ m. course lay items m input p) count ∙ course_more n input p
        ∙ ap (λ t. after [] labels (onward lay items (course lay items n) input p t)) e;
    home = λ n h.
        let count : suc n ≡ 1 + n = omega arith in
        let open_before = q.item ∷ calls in
        let rest = λ (i : List ℕ) (r : Point) (c : List ℕ). ReturnsHome lay items n i r c in
        let here : home_by lay items (rest input) p.item open_before
        (is_call (slice_get items p.item)) (returns (slice_get items p.item)) q =
        subst (λ b. home_by lay items (rest input) p.item open_before b
        (returns (slice_get items p.item)) q) (sym no_call)
        (subst (λ b. home_by lay items (rest input) p.item open_before false b q) (sym return)
        (refl, h)) in
        subst (λ m. ReturnsHome lay items m input p open_before) count
        (subst (λ (T : Type 0). T) (sym (home_more n input p open_before))
        (subst (λ t. home_to lay items rest input p open_before t) (sym e) here));
  }

  pub one_written : (p q : Point) (a len : ℕ) (bytes input calls : List ℕ)
      → turn lay items p ≡ Written a len bytes q → label_of (slice_get items p.item) ≡ []
      → Goes 1 input p calls bytes [] input q calls
  one_written p q a len bytes input calls e no_label = record {
    by = λ n.
        let count : 1 + n ≡ suc n = omega arith in
        ap (λ m. course lay items m input p) count ∙ course_more n input p
        ∙ ap (λ t. after [] (label_of (slice_get items p.item))
        (onward lay items (course lay items n) input p t)) e
        ∙ ap (λ l. after [] l (after bytes [] (course lay items n input q))) no_label;
    home = λ n h.
        let count : suc n ≡ 1 + n = omega arith in
        let rest = λ (i : List ℕ) (r : Point) (c : List ℕ). ReturnsHome lay items n i r c in
        subst (λ m. ReturnsHome lay items m input p calls) count
        (subst (λ (T : Type 0). T) (sym (home_more n input p calls))
        (subst (λ t. home_to lay items rest input p calls t) (sym e) h));
  }

  pub one_asked : (p : Point) (a : ℕ) (input calls : List ℕ) → turn lay items p ≡ Asked a
      → label_of (slice_get items p.item) ≡ [] → Goes 1 input p calls [] [] (drop 1 input)
      (behind p.item (given (state_at lay items p) (slice_get input 0))) calls
  one_asked p a input calls e no_label = record {
    by = λ n.
        let count : 1 + n ≡ suc n = omega arith in
        ap (λ m. course lay items m input p) count ∙ course_more n input p
        ∙ ap (λ t. after [] (label_of (slice_get items p.item))
        (onward lay items (course lay items n) input p t)) e
        ∙ ap (λ l. after [] l
        (course lay items n (drop 1 input)
        (behind p.item (given (state_at lay items p) (slice_get input 0))))) no_label;
    home = λ n h.
        let count : suc n ≡ 1 + n = omega arith in
        let rest = λ (i : List ℕ) (r : Point) (c : List ℕ). ReturnsHome lay items n i r c in
        subst (λ m. ReturnsHome lay items m input p calls) count
        (subst (λ (T : Type 0). T) (sym (home_more n input p calls))
        (subst (λ t. home_to lay items rest input p calls t) (sym e) h));
  }

  pub one_ended : (p : Point) (code : ℕ) (input calls : List ℕ) → turn lay items p ≡ Ended code
      → label_of (slice_get items p.item) ≡ [] → Exits 1 input p calls [] [] input code
  one_ended p code input calls e no_label = record {
    by = λ n.
        let count : 1 + n ≡ suc n = omega arith in
        ap (λ m. course lay items m input p) count ∙ course_more n input p
        ∙ ap (λ t. after [] (label_of (slice_get items p.item))
        (onward lay items (course lay items n) input p t)) e
        ∙ ap (λ l. after [] l (stands input (Exited code))) no_label;
    home = λ n.
        let count : suc n ≡ 1 + n = omega arith in
        let rest = λ (i : List ℕ) (r : Point) (c : List ℕ). ReturnsHome lay items n i r c in
        subst (λ m. ReturnsHome lay items m input p calls) count
        (subst (λ (T : Type 0). T) (sym (home_more n input p calls))
        (subst (λ t. home_to lay items rest input p calls t) (sym e) tt));
  }
