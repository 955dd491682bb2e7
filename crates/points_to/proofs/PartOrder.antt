-- The order of parts, and what is found in rows that stand in it.
use Rattle.std.proofs.Common.{◌≡◌, ◌≢◌, ℕ, zero, suc, ◌+◌, ◌-◌, ◌<◌, ◌≤◌, Bool, true, false, cond, nat_eq, nat_lt, ◌&&◌, List, [], ◌∷◌, ◌++◌, map, length, get_or, slice_set, take, drop, refl, sym, ap, ◌∙◌, subst, inl, inr, ⊎_elim, arith}
use Rattle.std.specs.Prelude.{◌⊎◌, IsTrue}
use Rattle.std.specs.List.{flat_map, insert}
use Rattle.std.proofs.lemmas.List.{get_or-map, take-append-drop, length-set}
use Rattle.std.proofs.lemmas.List.Concat.{flat_map-append}
use Rattle.std.proofs.lemmas.List.Edits.{length-insert, get_or-insert_below, get_or-insert_at, get_or-insert_above}
use Rattle.flow_system.specs.declared.fact.Part.{Part}
use Rattle.flow_system.specs.declared.fact.Part.TheVariants.{Tags as tags, Field as field, Word as word}
use Rattle.points_to.specs.declared.facts.Item.{Item}
use Rattle.points_to.specs.declared.items.Row.{Row}
use Rattle.points_to.specs.Held.{same_part, word_if_in_part, words_in_part}
use Rattle.points_to.specs.PartOrder.{before, part_at, Ascending, IsPlace, StandsAt, GoesTo}
use Rattle.points_to.specs.Rows.{row_words, row_items, GainsMembers}
use Rattle.seq.proofs.Order.{compared, lt_or_le, eq_from, eq_true, eq_self, eq_false, lt_from, lt_true, le_from, lt_false}
use Rattle.seq.proofs.Lists.{append_nil}
use Rattle.points_to.proofs.GivenItems.{same_part-true, same_part-self}
use Rattle.points_to.proofs.Gets.{gets_between}
use Rattle.points_to.proofs.Rows.{picked_row, none_picked}

-- two numbers after one another
pairs_from : (t i u j : ℕ) → cond (nat_eq t u) (nat_lt i j) (nat_lt t u) ≡ true → (t < u)
    ⊎ ((t ≡ u) × (i < j))
pairs_from t i u j h = on (nat_eq t u) refl h
  where
    on : (b : Bool) → nat_eq t u ≡ b → cond b (nat_lt i j) (nat_lt t u) ≡ true → (t < u)
        ⊎ ((t ≡ u) × (i < j))
    on true e k = inr (eq_from t u e, lt_from i j k)
    on false e k = inl (lt_from t u k)

pairs_to : (t i u j : ℕ) → (t < u) ⊎ ((t ≡ u) × (i < j))
    → cond (nat_eq t u) (nat_lt i j) (nat_lt t u) ≡ true
pairs_to t i u j h = ⊎_elim
    (λ a. let l : t < u = a in rw (eq_false t u (λ e. omega (arith, e, l))) (lt_true t u l))
    (λ b. rw (eq_true t u b.0) (lt_true i j b.1))
    h

none_before_tags : {P : Type 0} (q : Part) → before q tags ≡ true → P
none_before_tags tags h = cc
none_before_tags (field t i) h = cc
none_before_tags (word j) h = cc

before_trans : (a b c : Part) → before a b ≡ true → before b c ≡ true → before a c ≡ true
before_trans a b tags g h = none_before_tags b h
before_trans tags b (field v k) g h = refl
before_trans tags b (word k) g h = refl
before_trans (field t i) b (word k) g h = refl
before_trans (field t i) tags (field v k) g h = cc
before_trans (field t i) (word j) (field v k) g h = cc
before_trans (field t i) (field u j) (field v k) g h = pairs_to t i v k (⊎_elim
    (λ a. let l : t < u = a in ⊎_elim (λ c. let m : u < v = c in inl (omega (arith, l, m)))
    (λ d. let e : u ≡ v = d.0 in inl (omega (arith, l, e))) (pairs_from u j v k h))
    (λ b. let e : t ≡ u = b.0 in let l : i < j = b.1
    in ⊎_elim (λ c. let m : u < v = c in inl (omega (arith, e, m)))
    (λ d. let f : u ≡ v = d.0 in let m : j < k = d.1 in inr (e ∙ f, omega (arith, l, m)))
    (pairs_from u j v k h))
    (pairs_from t i u j g))
before_trans (word i) tags (field v k) g h = cc
before_trans (word i) (field u j) (field v k) g h = cc
before_trans (word i) (word j) (field v k) g h = cc
before_trans (word i) tags (word k) g h = cc
before_trans (word i) (field u j) (word k) g h = cc
before_trans (word i) (word j) (word k) g h = let l : i < j = lt_from i j g in let m : j < k
    = lt_from j k h in lt_true i k (omega (arith, l, m))

before_self : (a : Part) → before a a ≡ false
before_self tags = refl
before_self (field t i) = rw (eq_self t) (lt_false i i (omega arith))
before_self (word i) = lt_false i i (omega arith)

before_differs : (a b : Part) → before a b ≡ true → same_part a b ≡ false
before_differs a b h = on (same_part a b) refl
  where
    on : (s : Bool) → same_part a b ≡ s → s ≡ false
    on true e = let f : before a a ≡ true = subst (λ c. before a c ≡ true)
        (sym (same_part-true a b e)) h in absurd
        (let g : false ≡ true = sym (before_self a) ∙ f in cc)
    on false e = refl

same_turned : (a b : Part) → same_part a b ≡ false → same_part b a ≡ false
same_turned a b h = on (same_part b a) refl
  where
    on : (s : Bool) → same_part b a ≡ s → s ≡ false
    on true e = let f : same_part a a ≡ false = subst (λ c. same_part a c ≡ false)
        (same_part-true b a e) h in absurd (let g : true ≡ false = sym (same_part-self a) ∙ f in cc)
    on false e = refl

-- of two different parts one stands before the other
before_other : (a b : Part) → before a b ≡ false → same_part a b ≡ false → before b a ≡ true
before_other tags tags g h = cc
before_other tags (field u j) g h = cc
before_other tags (word j) g h = cc
before_other (field t i) tags g h = refl
before_other (field t i) (field u j) g h = pairs_to u j t i (⊎_elim
    (λ a. let f : true ≡ false = sym (pairs_to t i u j (inl a)) ∙ g in cc)
    (λ d. ⊎_elim
    (λ e. inr (
      sym e,
      ⊎_elim
          (λ a. let f : true ≡ false = sym (pairs_to t i u j (inr (e, a))) ∙ g in cc)
          (λ c. ⊎_elim (λ k. let f : true ≡ false = sym (both_true e k) ∙ h in cc) (λ k. k) c)
          (compared i j),
    ))
    (λ a. inl a)
    d)
    (compared t u))
  where
    both_true : t ≡ u → i ≡ j → (nat_eq t u && nat_eq i j) ≡ true
    both_true e k = rw (eq_true t u e, eq_true i j k) refl
before_other (field t i) (word j) g h = cc
before_other (word i) tags g h = refl
before_other (word i) (field u j) g h = refl
before_other (word i) (word j) g h = let le : j ≤ i = le_from i j g in let ne : i ≢ j
    = λ e. (let f : true ≡ false = sym (eq_true i j e) ∙ h in cc)
    in lt_true j i (omega (arith, le, ne))

-- the part of a row as it was read
pub part_read : (rows : List Row) (k : ℕ) (r : Row) → k < length rows → r ≡ get_or rows k r
    → part_at rows k ≡ r.part
part_read rows k r lt e = get_or-map (λ r. r.part) rows k r tags lt ∙ ap (λ r. r.part) (sym e)

-- halves
module _ (rows : List Row) (up : Ascending rows) (q : Part) (low high k : ℕ) (r : Row)
    (p : IsPlace rows q low high) (lt : k < length rows) (e : r ≡ get_or rows k r) where
  pub in_upper : k < high → before r.part q ≡ true → IsPlace rows q (k + 1) high
  in_upper below h = record
      { inside = omega (arith, below); bound = p.bound; lower = lower; others = p.others }
    where
      at_k : before (part_at rows k) q ≡ true
      at_k = ap (λ a. before a q) (part_read rows k r lt e) ∙ h

      lower : (i : ℕ) → i < k + 1 → IsTrue (before (part_at rows i) q)
      lower i l = ⊎_elim
          (λ a. before_trans (part_at rows i) (part_at rows k) q (up i k a lt) at_k)
          (λ t. ⊎_elim (λ s. subst (λ m. before (part_at rows m) q ≡ true) (sym s) at_k)
          (λ g. let g : k < i = g in absurd (omega (arith, l, g))) t)
          (compared i k)

  pub in_lower : low ≤ k → before r.part q ≡ false → IsPlace rows q low k
  in_lower above h = record
      { inside = above; bound = omega (arith, lt); lower = p.lower; others = others }
    where
      at_k : before (part_at rows k) q ≡ false
      at_k = ap (λ a. before a q) (part_read rows k r lt e) ∙ h

      not_before : (i : ℕ) → k < i → i < length rows → (b : Bool) → before (part_at rows i) q ≡ b
          → b ≡ false
      not_before i g w true f = absurd
          (let x : true ≡ false = sym
          (before_trans (part_at rows k) (part_at rows i) q (up k i g w) f) ∙ at_k in cc)
      not_before i g w false f = refl

      others : (i : ℕ) → k ≤ i → i < length rows → before (part_at rows i) q ≡ false
      others i le w = ⊎_elim
          (λ a. let a : i < k = a in absurd (omega (arith, le, a)))
          (λ t. ⊎_elim (λ s. subst (λ m. before (part_at rows m) q ≡ false) (sym s) at_k)
          (λ g. not_before i g w (before (part_at rows i) q) refl) t)
          (compared i k)

-- what the place says
module _ (rows : List Row) (q : Part) (k : ℕ) (p : IsPlace rows q k k) (r : Row)
    (lt : k < length rows) (e : r ≡ get_or rows k r) where
  pub goes_there : Ascending rows → same_part r.part q ≡ false → GoesTo rows q k
  goes_there up s = record { bound = p.bound; lower = p.lower; higher = higher }
    where
      at_k : before q (part_at rows k) ≡ true
      at_k = before_other (part_at rows k) q (p.others k (omega arith) lt)
          (ap (λ a. same_part a q) (part_read rows k r lt e) ∙ s)

      higher : (i : ℕ) → k ≤ i → i < length rows → IsTrue (before q (part_at rows i))
      higher i le w = ⊎_elim
          (λ a. let a : i < k = a in absurd (omega (arith, le, a)))
          (λ t. ⊎_elim (λ s. subst (λ m. before q (part_at rows m) ≡ true) (sym s) at_k)
          (λ g. before_trans q (part_at rows k) (part_at rows i) at_k (up k i g w)) t)
          (compared i k)

-- the words in one part
no_row_picked : (q : Part) (rows : List Row) →
    ((i : ℕ) → i < length rows → same_part q (part_at rows i) ≡ false)
    → words_in_part q (flat_map row_items rows) ≡ []
no_row_picked q [] h = refl
no_row_picked q (r ∷ rows) h =
    flat_map-append (word_if_in_part q) (row_items r) (flat_map row_items rows)
    ∙ ap (λ l. l ++ words_in_part q (flat_map row_items rows))
    (none_picked q r.part (row_words r) (h 0 (omega arith)))
    ∙ no_row_picked q rows (λ i lt. h (suc i) (omega (arith, lt)))

row_picked : (q : Part) (rows : List Row) (k : ℕ) (r : Row) → k < length rows → r ≡ get_or rows k r
    → r.part ≡ q → ((i : ℕ) → i < length rows → i ≢ k → same_part q (part_at rows i) ≡ false)
    → words_in_part q (flat_map row_items rows) ≡ row_words r
row_picked q [] k r lt e s h = absurd (omega (arith, lt))
row_picked q (x ∷ rows) zero r lt e s h =
    flat_map-append (word_if_in_part q) (row_items x) (flat_map row_items rows)
    ∙ ap (λ l. words_in_part q (row_items x) ++ l)
    (no_row_picked q rows
    (λ i w. h (suc i) (omega (arith, w)) (λ z. absurd (omega (arith, z)))))
    ∙ append_nil (words_in_part q (row_items x))
    ∙ picked_row q x.part (row_words x)
    (subst (λ a. same_part q a ≡ true) (sym s ∙ ap (λ y. y.part) e) (same_part-self q))
    ∙ ap row_words (sym e)
row_picked q (x ∷ rows) (suc k) r lt e s h =
    flat_map-append (word_if_in_part q) (row_items x) (flat_map row_items rows)
    ∙ ap (λ l. l ++ words_in_part q (flat_map row_items rows))
    (none_picked q x.part (row_words x) (h 0 (omega arith) (λ z. absurd (omega (arith, z)))))
    ∙ row_picked q rows k r (omega (arith, lt)) e s
    (λ i w n. h (suc i) (omega (arith, w)) (λ z. n (omega (arith, z))))

pub picked_there : (rows : List Row) → Ascending rows → (q : Part) (k : ℕ) (r : Row)
    → StandsAt rows q k → r ≡ get_or rows k r → words_in_part q (flat_map row_items rows) ≡
    row_words r
picked_there rows up q k r s e = row_picked q rows k r s.within e
    (sym (part_read rows k r s.within e) ∙ s.part) others
  where
    others : (i : ℕ) → i < length rows → i ≢ k → same_part q (part_at rows i) ≡ false
    others i w n = ⊎_elim
        (λ a. same_turned (part_at rows i) q
        (before_differs (part_at rows i) q
        (subst (λ b. before (part_at rows i) b ≡ true) s.part (up i k a s.within))))
        (λ t. ⊎_elim (λ z. absurd (n z))
        (λ g. before_differs q (part_at rows i)
        (subst (λ b. before b (part_at rows i) ≡ true) s.part (up k i g w))) t)
        (compared i k)

pub picked_nowhere : (rows : List Row) (q : Part) (k : ℕ) → GoesTo rows q k
    → words_in_part q (flat_map row_items rows) ≡ []
picked_nowhere rows q k g = no_row_picked q rows (λ i w. ⊎_elim
    (λ a. same_turned (part_at rows i) q (before_differs (part_at rows i) q (g.lower i a)))
    (λ le. before_differs q (part_at rows i) (g.higher i le w))
    (lt_or_le i k))

-- a new row
pub still_ascending : (rows : List Row) (k : ℕ) (r : Row) → Ascending rows → GoesTo rows r.part k
    → Ascending (insert rows k r)
still_ascending rows k r up p i j lt within = ⊎_elim
    (λ a. ⊎_elim
    (λ b. both (low i a) (low j b) (up i j lt (omega (arith, b, bound))))
    (λ t. ⊎_elim
    (λ e. both (low i a) (ap (part_at new) e ∙ here_now) (p.lower i a))
    (λ g. both (low i a) (high j g within) (up i (j - 1) (omega (arith, a, g)) (short j g within)))
    t)
    (compared j k))
    (λ u. ⊎_elim
    (λ e. let g : k < j = omega (arith, e, lt) in both (ap (part_at new) e ∙ here_now)
    (high j g within) (p.higher (j - 1) (omega (arith, g)) (short j g within)))
    (λ h. let g : k < j = omega (arith, h, lt) in both (high i h (omega (arith, lt, within)))
    (high j g within) (up (i - 1) (j - 1) (omega (arith, h, lt)) (short j g within)))
    u)
    (compared i k)
  where
    new : List Row
    new = insert rows k r

    bound : k ≤ length rows
    bound = p.bound

    longer : length new ≡ length rows + 1
    longer = length-insert rows k r bound

    both : {a b c d : Part} → a ≡ c → b ≡ d → before c d ≡ true → before a b ≡ true
    both {a = a} {b = b} {c = c} {d = d} e f h = ap (λ x. before x b) e ∙ ap (λ y. before c y) f ∙ h

    low : (m : ℕ) → m < k → part_at new m ≡ part_at rows m
    low m a =
        get_or-map (λ r. r.part) new m r tags (omega (arith, a, bound, longer))
        ∙ ap (λ r. r.part) (get_or-insert_below rows k r r m a bound) ∙ sym
        (get_or-map (λ r. r.part) rows m r tags (omega (arith, a, bound)))

    here_now : part_at new k ≡ r.part
    here_now = get_or-map (λ r. r.part) new k r tags (omega (arith, bound, longer)) ∙ ap
        (λ r. r.part) (get_or-insert_at rows k r r bound)

    short : (m : ℕ) → k < m → m < length new → m - 1 < length rows
    short m g l = omega (arith, g, l, longer)

    high : (m : ℕ) → k < m → m < length new → part_at new m ≡ part_at rows (m - 1)
    high m g l =
        get_or-map (λ r. r.part) new m r tags l
        ∙ ap (λ n. (get_or new n r).part) (let s : m ≡ m - 1 + 1 = omega (arith, g) in s)
        ∙ ap (λ r. r.part) (get_or-insert_above rows k r r (m - 1) (omega (arith, g)) bound) ∙ sym
        (get_or-map (λ r. r.part) rows (m - 1) r tags (short m g l))

pub gets_row : (rows : List Row) (k : ℕ) (r : Row) (is : List Item)
    → GainsMembers [] (row_items r) is → GainsMembers (flat_map row_items rows)
    (flat_map row_items (insert rows k r)) is
gets_row rows k r is g =
    subst (λ l. GainsMembers (flat_map row_items l) (flat_map row_items (insert rows k r)) is)
    (take-append-drop k rows)
    (gets_between row_items is (take k rows) (drop k rows) r g)

-- another row of the same part
parts_kept : (rows : List Row) (k : ℕ) (r r' : Row) → r ≡ get_or rows k r → r'.part ≡ r.part
    → map (λ r. r.part) (slice_set rows k r') ≡ map (λ r. r.part) rows
parts_kept [] k r r' e s = refl
parts_kept (x ∷ rows) zero r r' e s = ap (λ p. p ∷ map (λ r. r.part) rows) (s ∙ ap (λ y. y.part) e)
parts_kept (x ∷ rows) (suc k) r r' e s = ap (λ l. x.part ∷ l) (parts_kept rows k r r' e s)

pub set_ascending : (rows : List Row) (k : ℕ) (r r' : Row) → k < length rows → r ≡ get_or rows k r
    → r'.part ≡ r.part → Ascending rows → Ascending (slice_set rows k r')
set_ascending rows k r r' lt e s up = subst
    (λ ps. (i j : ℕ) → i < j → j < length (slice_set rows k r')
    → before (get_or ps i tags) (get_or ps j tags) ≡ true) (sym same)
    (λ i j l w. up i j l (omega (arith, w, set_length)))
  where
    same : map (λ r. r.part) (slice_set rows k r') ≡ map (λ r. r.part) rows
    same = parts_kept rows k r r' e s

    set_length : length (slice_set rows k r') ≡ length rows
    set_length = length-set rows k r'
