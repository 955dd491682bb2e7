-- What a course is of a longer one.
use Rattle.std.proofs.Common.{◌≡◌, ℕ, zero, suc, ◌+◌, ◌≤◌, List, [], ◌∷◌, ◌++◌, length, drop, Some, None, ◌⊎◌, inl, inr, refl, sym, ap, ◌∙◌, subst, arith, append_assoc, length-append, length-drop}
use Rattle.std.specs.Prelude.{Bool, true, false, Option, slice_get}
use Rattle.std.proofs.lemmas.Grind.{common_steps}
use Rattle.rv32_machine.specs.Steps.{given}
use Rattle.rv32_items.specs.declared.Item.{Item}
use Rattle.rv32_items.specs.declared.Item.TheVariants.{Label, Plain, Branch, Jump}
use Rattle.rv32_items.specs.Course.{Layout, Point, Turn, Next, Written, Asked, Ended, Trapped, turn, behind, state_at, Going, Exited, Stopped, Course, stands, after, onward, course, label_of}
use Rattle.rv32_items.specs.Told.{is_call, returns, home_by, home_to, ReturnsHome}
use Rattle.rv32_select.proofs.Courses.{course_more, course_none}

-- a is a front of b: b has written, read and passed the same and more, and where a has ended b is a
pub record IsFront (a b : Course) : Type 0 where
  pub bytes : List ℕ
  pub out : b.out ≡ a.out ++ bytes
  pub labels : List ℕ
  pub passed : b.passed ≡ a.passed ++ labels
  pub left : length b.left ≤ length a.left
  pub ended : ((q : Point) × (a.end ≡ Going q)) ⊎ (b ≡ a)

front_after : (v l : List ℕ) (a b : Course) → IsFront a b → IsFront (after v l a) (after v l b)
front_after v l a b h = record {
  bytes = h.bytes;
  out = ap (λ x. v ++ x) h.out ∙ sym (append_assoc v a.out h.bytes);
  labels = h.labels;
  passed = ap (λ x. l ++ x) h.passed ∙ sym (append_assoc l a.passed h.labels);
  left = h.left;
  ended = elim h.ended [ inl e ↦ inl e | inr e ↦ inr (ap (after v l) e) ];
}

pub front_itself : (a : Course) → IsFront a a
front_itself a = record {
  bytes = [];
  out = end a.out;
  labels = [];
  passed = end a.passed;
  left = omega arith;
  ended
      = inr refl;
}
  where
    end : (xs : List ℕ) → xs ≡ xs ++ []
    end xs = grind (arith, common_steps)

label_few : (o : Option Item) → length (label_of o) ≤ 1
label_few None = omega arith
label_few (Some (Label l)) = omega arith
label_few (Some (Plain i)) = omega arith
label_few (Some (Branch c x y l)) = omega arith
label_few (Some (Jump k l)) = omega arith

module _ (lay : Layout) (items : List Item) where
  -- no more of the input is left than there was
  pub left_less : (n : ℕ) (input : List ℕ) (p : Point)
      → length (course lay items n input p).left ≤ length input
  left_less zero input p = subst (λ c. length c.left ≤ length input)
      (sym (course_none lay items input p)) (omega arith)
  left_less (suc n) input p = subst (λ c. length c.left ≤ length input)
      (sym (course_more lay items n input p)) (by_turn (turn lay items p) (λ i q. left_less n i q))
    where
      by_turn : (t : Turn) →
          ((i : List ℕ) (q : Point) → length (course lay items n i q).left ≤ length i)
          → length (onward lay items (course lay items n) input p t).left ≤ length input
      by_turn (Next q) h = h input q
      by_turn (Written a len bytes q) h = h input q
      by_turn (Asked a) h =
          let less = h (drop 1 input)
          (behind p.item (given (state_at lay items p) (slice_get input 0))) in
          let few = length-drop 1 input in
          omega arith
      by_turn (Ended code) h = omega arith
      by_turn (Trapped kind) h = omega arith

  -- no more labels are passed than there are items
  pub passed_few : (n : ℕ) (input : List ℕ) (p : Point)
      → length (course lay items n input p).passed ≤ n
  passed_few zero input p = subst (λ c. length c.passed ≤ 0) (sym (course_none lay items input p))
      (omega arith)
  passed_few (suc n) input p = subst (λ c. length c.passed ≤ suc n)
      (sym (course_more lay items n input p))
      (whole (by_turn (turn lay items p) (λ i q. passed_few n i q)))
    where
      by_turn : (t : Turn) → ((i : List ℕ) (q : Point) → length (course lay items n i q).passed ≤ n)
          → length (onward lay items (course lay items n) input p t).passed ≤ n
      by_turn (Next q) h = h input q
      by_turn (Written a len bytes q) h = h input q
      by_turn (Asked a) h = h (drop 1 input)
          (behind p.item (given (state_at lay items p) (slice_get input 0)))
      by_turn (Ended code) h = omega arith
      by_turn (Trapped kind) h = omega arith

      whole : length (onward lay items (course lay items n) input p (turn lay items p)).passed ≤ n
          → length (label_of (slice_get items p.item)
          ++ (onward lay items (course lay items n) input p (turn lay items p)).passed) ≤ suc n
      whole h =
          let few = label_few (slice_get items p.item) in
          let both = length-append (label_of (slice_get items p.item))
          (onward lay items (course lay items n) input p (turn lay items p)).passed in
          omega arith

  pub course_front : (k n : ℕ) (input : List ℕ) (p : Point)
      → IsFront (course lay items k input p) (course lay items (k + n) input p)
  course_front zero n input p =
      subst (λ c. IsFront c (course lay items (zero + n) input p))
      (sym (course_none lay items input p))
      (record {
        bytes = (course lay items (zero + n) input p).out;
        out = refl;
        labels = (course lay items (zero + n) input p).passed;
        passed = refl;
        left = left_less (zero + n) input p;
        ended = inl (p, refl);
      })
  course_front (suc k) n input p =
      let count : suc k + n ≡ suc (k + n) = omega arith in
      subst (λ x. IsFront (course lay items (suc k) input p) (course lay items x input p))
      (sym count)
      (subst (λ c. IsFront c (course lay items (suc (k + n)) input p))
      (sym (course_more lay items k input p))
      (subst (λ c. IsFront
      (after [] (label_of (slice_get items p.item))
      (onward lay items (course lay items k) input p (turn lay items p))) c)
      (sym (course_more lay items (k + n) input p))
      (front_after [] (label_of (slice_get items p.item))
      (onward lay items (course lay items k) input p (turn lay items p))
      (onward lay items (course lay items (k + n)) input p (turn lay items p))
      (by_turn (turn lay items p) (λ i q. course_front k n i q)))))
    where
      by_turn : (t : Turn) →
          ((i : List ℕ) (q : Point) → IsFront (course lay items k i q)
          (course lay items (k + n) i q)) → IsFront
          (onward lay items (course lay items k) input p t)
          (onward lay items (course lay items (k + n)) input p t)
      by_turn (Next q) h = h input q
      by_turn (Written a len bytes q) h = front_after bytes [] (course lay items k input q)
          (course lay items (k + n) input q) (h input q)
      by_turn (Asked a) h = h (drop 1 input)
          (behind p.item (given (state_at lay items p) (slice_get input 0)))
      by_turn (Ended code) h = front_itself (stands input (Exited code))
      by_turn (Trapped kind) h = front_itself (stands input (Stopped kind))

  -- what goes home for longer goes home for so long
  pub home_front : (k n : ℕ) (input : List ℕ) (p : Point) (calls : List ℕ)
      → ReturnsHome lay items (k + n) input p calls → ReturnsHome lay items k input p calls
  unfolding ReturnsHome
  home_front zero n input p calls h = tt
  home_front (suc k) n input p calls h =
      let count : suc k + n ≡ suc (k + n) = omega arith in
      by_turn (turn lay items p) (λ i q c z. home_front k n i q c z)
      (subst (λ x. ReturnsHome lay items x input p calls) count h)
    where
      by_flags : (q : Point) (opens closes : Bool) (calls : List ℕ)
          → ((c : List ℕ) → ReturnsHome lay items (k + n) input q c
          → ReturnsHome lay items k input q c)
          → home_by lay items (λ q c. ReturnsHome lay items (k + n) input q c) p.item calls opens
          closes q → home_by lay items (λ q c. ReturnsHome lay items k input q c) p.item calls
          opens closes q
      by_flags q true closes calls less h = less (suc p.item ∷ calls) h
      by_flags q false false calls less h = less calls h
      by_flags q false true [] less h = h
      by_flags q false true (c ∷ calls) less h = (h.0, less calls h.1)

      by_turn : (t : Turn) →
          ((i : List ℕ) (q : Point) (c : List ℕ) → ReturnsHome lay items (k + n) i q c
          → ReturnsHome lay items k i q c) → home_to lay items
          (λ i q c. ReturnsHome lay items (k + n) i q c) input p calls t
          → home_to lay items (λ i q c. ReturnsHome lay items k i q c) input p calls t
      by_turn (Next q) less h = by_flags q (is_call (slice_get items p.item))
          (returns (slice_get items p.item)) calls (λ c z. less input q c z) h
      by_turn (Written a len bytes q) less h = less input q calls h
      by_turn (Asked a) less h = less (drop 1 input)
          (behind p.item (given (state_at lay items p) (slice_get input 0))) calls h
      by_turn (Ended code) less h = tt
      by_turn (Trapped kind) less h = absurd h
