-- What a solution's readers say, and the sets that they read.
use Rattle.std.proofs.Common.{◌≡◌, ℕ, suc, ◌+◌, ◌<◌, ◌≤◌, Bool, true, false, not, ◌&&◌, ◌||◌, nat_eq, eqb, List, [], ◌∷◌, ◌++◌, map, take, length, get_or, Some, None, slice_get, refl, sym, ap, ◌∙◌, subst, inl, inr, ⊎_elim, arith}
use Rattle.std.specs.Prelude.{◌⊎◌, ◌↔◌, IsTrue}
use Rattle.std.specs.List.Sorted.{IsStrictlyIncreasing}
use Rattle.std.proofs.lemmas.Bool.Decides.{nat_tests}
use Rattle.std.proofs.lemmas.List.{take_all, take_more}
use Rattle.seq.proofs.Truth.{not_both, both_ways, and_assoc, and_true, not_true, or_left, or_right, and_from, and_left, and_right}
use Rattle.seq.proofs.Order.{eq_from, eq_true}
use Rattle.seq.proofs.Member.{none_in, cons_in}
use Rattle.grin_syntax.specs.declared.program.TagId.{TagId}
use Rattle.grin_syntax.specs.declared.program.Site.{Site}
use Rattle.flow_system.specs.declared.fact.Element.{Element}
use Rattle.flow_system.specs.declared.fact.Element.TheVariants.{Cell as cell, Tag as tag, Number as number}
use Rattle.flow_system.specs.declared.fact.Place.TheVariants.{Var as var, Result as result}
use Rattle.flow_system.specs.declared.fact.Part.TheVariants.{Tags as tags, Word as word}
use Rattle.flow_system.specs.Solution.{Solution, At, same_word, among}
use Rattle.points_to.specs.Held.{In, here, there}
use Rattle.unbox_theory.specs.Ends.{only_int, has_int}

-- ---- truth values

zero_from : (n : ℕ) → eqb n 0 ≡ true → n ≡ 0
zero_from n h = grind (arith, nat_tests)

above_zero : (n : ℕ) → nat_eq n 0 ≡ false → 0 < n
above_zero n h = grind (arith, nat_tests)

-- ---- words

abbrev IsInt : Element → Type 0
IsInt u = same_word (tag 0) u ≡ true

same_itself : (u : Element) → same_word u u ≡ true
same_itself (cell s) = eq_true s s refl
same_itself (tag t) = eq_true t t refl
same_itself number = refl

same_int : (u v : Element) → same_word u v ≡ true → IsInt v → IsInt u
same_int (cell s) (cell s') h k = k
same_int (cell s) (tag t) h k = cc
same_int (cell s) number h k = cc
same_int (tag t) (cell s) h k = cc
same_int (tag t) (tag t') h k = subst (λ n. nat_eq 0 n ≡ true) (sym (eq_from t t' h)) k
same_int (tag t) number h k = cc
same_int number (cell s) h k = k
same_int number (tag t) h k = cc
same_int number number h k = k

-- all in the set are the tag of numbers
all_int : (us : List Element) → ((u : Element) → among u us ≡ true → IsInt u) → only_int us ≡ true
all_int [] h = refl
all_int (u ∷ us) h = and_from (same_word (tag 0) u) (only_int us)
    (h u (or_left (same_word u u) (among u us) (same_itself u)))
    (all_int us (λ v k. h v (or_right (same_word v u) (among v us) k)))

is_int : (us : List Element) → only_int us ≡ true → (u : Element) → among u us ≡ true → IsInt u
is_int [] h u k = cc
is_int (v ∷ us) h u k = go (same_word u v) refl k
    (is_int us (and_right (same_word (tag 0) v) (only_int us) h) u)
  where
    go : (b : Bool) → same_word u v ≡ b → (b || among u us) ≡ true → (among u us ≡ true → IsInt u)
        → IsInt u
    go true q l later = same_int u v q (and_left (same_word (tag 0) v) (only_int us) h)
    go false q l later = later l

-- ---- listed tags

-- each is that of numbers, or isn't in the set
abbrev pub no_others : List Element → List TagId → Bool
no_others us [] = true
no_others us (t ∷ ts) = (nat_eq t.0 0 || not (among (tag t.0) us)) && no_others us ts

no_others_push : (us : List Element) (ts : List TagId) (t : TagId)
    → no_others us (ts ++ t ∷ []) ≡ (no_others us ts && (nat_eq t.0 0 || not (among (tag t.0) us)))
no_others_push us [] t = and_true (nat_eq t.0 0 || not (among (tag t.0) us))
no_others_push us (x ∷ ts) t = ap (λ b. (nat_eq x.0 0 || not (among (tag x.0) us)) && b)
    (no_others_push us ts t) ∙ sym
    (and_assoc (nat_eq x.0 0 || not (among (tag x.0) us)) (no_others us ts)
    (nat_eq t.0 0 || not (among (tag t.0) us)))

-- the test of the first tags
pub record Tested (us : List Element) (all : Bool) (ts : List TagId) : Type 0 where
  pub by : all ≡ no_others us ts

pub none_tested : (us : List Element) → Tested us true []
none_tested us = record { by = refl }

pub tested_next : (us : List Element) (all one both : Bool) (ts : List TagId) (i : ℕ) (d : TagId)
    → i < length ts
    → one ≡ (nat_eq (get_or ts i d).0 0 || not (among (tag (get_or ts i d).0) us))
    → both ≡ (all && one) → Tested us all (take i ts) → Tested us both (take (i + 1) ts)
tested_next us all one both ts i d lt h e f = subst (Tested us both) (sym (take_more ts i d lt))
    (record { by = e ∙ (λ j. f.by j && h j) ∙ sym (no_others_push us (take i ts) (get_or ts i d)) })

listed : (us : List Element) (ts : List TagId) → no_others us ts ≡ true → (t : ℕ)
    → In t (map (λ t. t.0) ts) → among (tag t) us ≡ true → IsInt (tag t)
listed us [] h t k m = none_in k
listed us (x ∷ ts) h t k m = ⊎_elim first
    (λ r. listed us ts (and_right (nat_eq x.0 0 || not (among (tag x.0) us)) (no_others us ts) h) t
    r m) (cons_in x.0 (map (λ t. t.0) ts) k)
  where
    first : t ≡ x.0 → IsInt (tag t)
    first e =
        let l : (nat_eq x.0 0 || not (among (tag x.0) us)) ≡ true
        = and_left (nat_eq x.0 0 || not (among (tag x.0) us)) (no_others us ts) h in
        go (nat_eq x.0 0) refl l
      where
        go : (b : Bool) → nat_eq x.0 0 ≡ b → (b || not (among (tag x.0) us)) ≡ true → IsInt (tag t)
        go true q l = eq_true 0 t (sym (e ∙ eq_from x.0 0 q))
        go false q l = not_both (among (tag x.0) us) (subst (λ n. among (tag n) us ≡ true) e m)
            (not_true (among (tag x.0) us) l)

none_listed : (us : List Element) (ts : List TagId)
    → ((t : ℕ) → among (tag t) us ≡ true → IsInt (tag t)) → no_others us ts ≡ true
none_listed us [] h = refl
none_listed us (t ∷ ts) h = and_from (nat_eq t.0 0 || not (among (tag t.0) us)) (no_others us ts)
    (go (among (tag t.0) us) refl) (none_listed us ts h)
  where
    go : (b : Bool) → among (tag t.0) us ≡ b → (nat_eq t.0 0 || not b) ≡ true
    go true q = or_left (nat_eq t.0 0) false (eq_true t.0 0 (sym (eq_from 0 t.0 (h t.0 q))))
    go false q = or_right (nat_eq t.0 0) true refl

no_sites : {P : Type 0} (cells : List Site) → length cells ≡ 0 → (s : ℕ)
    → In s (map (λ s. s.0) cells) → P
no_sites [] e s h = none_in h
no_sites (x ∷ cells) e s h = absurd (omega arith)

module _ (A : Solution) (x : ℕ) (numbers no_cells : Bool) (cells : List Site) (ts : List TagId)
    (holds : IsTrue numbers ↔ At A (var x) (word 0) number)
    (empty : no_cells ≡ eqb (length cells) 0)
    (sites : (s : ℕ) → In s (map (λ s. s.0) cells) ↔ At A (var x) (word 0) (cell s))
    (nodes : (t : ℕ) → In t (map (λ t. t.0) ts) ↔
    (At A (var x) tags (tag t) ⊎ At A (var x) (word 0) (tag t))) where
  abbrev us : List Element
  us = A (var x) (word 0)

  to_set : ((not numbers && no_cells) && no_others us ts) ≡ true → only_int us ≡ true
  to_set h = all_int us go
    where
      first : (not numbers && no_cells) ≡ true
      first = and_left (not numbers && no_cells) (no_others us ts) h

      go : (u : Element) → among u us ≡ true → IsInt u
      go (cell s) k =
          let e : no_cells ≡ true = and_right (not numbers) no_cells first in
          no_sites cells (zero_from (length cells) (sym empty ∙ e)) s
          ((sites s).1 (record { there = k }))
      go (tag t) k = listed us ts (and_right (not numbers && no_cells) (no_others us ts) h) t
          ((nodes t).1 (inr (record { there = k }))) k
      go number k = not_both numbers (holds.1 (record { there = k }))
          (not_true numbers (and_left (not numbers) no_cells first))

  from_set : only_int us ≡ true → ((not numbers && no_cells) && no_others us ts) ≡ true
  from_set h = and_from (not numbers && no_cells) (no_others us ts)
      (and_from (not numbers) no_cells (numbers_not numbers refl) (cells_not cells refl))
      (none_listed us ts (λ t k. is_int us h (tag t) k))
    where
      numbers_not : (b : Bool) → numbers ≡ b → not b ≡ true
      numbers_not true q = let k : same_word (tag 0) number ≡ true
          = is_int us h number (holds.0 q).there in cc
      numbers_not false q = refl

      cells_not : (cs : List Site) → cells ≡ cs → no_cells ≡ true
      cells_not [] q = empty ∙ ap (λ l. eqb (length l) 0) q
      cells_not (c ∷ cs) q =
          let k : same_word (tag 0) (cell c.0) ≡ true
          = is_int us h (cell c.0)
          ((sites c.0).0 (subst (λ l. In c.0 (map (λ s. s.0) l)) (sym q) here)).there in
          cc

  and_swap : (a b : Bool) → (a && b) ≡ (b && a)
  and_swap true true = refl
  and_swap true false = refl
  and_swap false true = refl
  and_swap false false = refl

  pub only_listed : (only : Bool) (i : ℕ) → length ts ≤ i
      → Tested (A (var x) (word 0)) only (take i ts)
      → (only && (not numbers && no_cells)) ≡ only_int (A (var x) (word 0))
  only_listed only i le f =
      let g : Tested us only ts = subst (Tested us only) (take_all i ts le) f in
      ap (λ b. b && (not numbers && no_cells)) g.by ∙ and_swap (no_others us ts)
      (not numbers && no_cells) ∙ both_ways ((not numbers && no_cells) && no_others us ts)
      (only_int us) to_set from_set

-- ---- the first of an ascending list

-- what stands after a number above zero, in a list that rises, isn't zero
no_zero : {P : Type 0} (x : ℕ) (xs : List ℕ) → IsStrictlyIncreasing (x ∷ xs) → In 0 xs → 0 < x → P
no_zero x [] h m lt = none_in m
no_zero x (y ∷ ys) h m lt =
    let above : x < y = h 0 (omega arith) in
    ⊎_elim (λ e. absurd (omega (arith, e)))
    (λ r. no_zero y ys
    (λ k within. let e : suc k + 1 ≡ suc (k + 1) = omega arith
    in subst (λ n. get_or (y ∷ ys) k 0 < get_or (x ∷ y ∷ ys) n 0) e (h (suc k) (omega arith))) r
    (omega (arith, above)))
    (cons_in y ys m)

module _ (A : Solution) (f : ℕ) (ts : List TagId)
    (up : IsStrictlyIncreasing (map (λ t. t.0) ts))
    (exact : (t : ℕ) → In t (map (λ t. t.0) ts) ↔
    (At A (result f) tags (tag t) ⊎ At A (result f) (word 0) (tag t))) where
  has : In 0 (map (λ t. t.0) ts) → has_int A f ≡ true
  has h = ⊎_elim
      (λ k. or_left (among (tag 0) (A (result f) tags)) (among (tag 0) (A (result f) (word 0)))
      k.there)
      (λ k. or_right (among (tag 0) (A (result f) tags)) (among (tag 0) (A (result f) (word 0)))
      k.there)
      ((exact 0).0 h)

  in_list : has_int A f ≡ true → In 0 (map (λ t. t.0) ts)
  in_list h = (exact 0).1 (go (among (tag 0) (A (result f) tags)) refl h)
    where
      go : (b : Bool) → among (tag 0) (A (result f) tags) ≡ b
          → (b || among (tag 0) (A (result f) (word 0))) ≡ true → At A (result f) tags (tag 0)
          ⊎ At A (result f) (word 0) (tag 0)
      go true q k = inl (record { there = q })
      go false q k = inr (record { there = k })

  without : ts ≡ [] → false ≡ has_int A f
  without e = both_ways false (has_int A f) (λ k. cc)
      (λ k. none_in (subst (λ l. In 0 (map (λ t. t.0) l)) e (in_list k)))

  with_first : (t : TagId) (rest : List TagId) → ts ≡ t ∷ rest → nat_eq t.0 0 ≡ has_int A f
  with_first t rest e = both_ways (nat_eq t.0 0) (has_int A f)
      (λ k. has
      (subst (λ l. In 0 (map (λ t. t.0) l)) (sym e)
      (subst (λ n. In n (t.0 ∷ map (λ t. t.0) rest)) (eq_from t.0 0 k) here)))
      (λ k. go (nat_eq t.0 0) refl (subst (λ l. In 0 (map (λ t. t.0) l)) e (in_list k)))
    where
      rises : IsStrictlyIncreasing (t.0 ∷ map (λ t. t.0) rest)
      rises = subst (λ l. IsStrictlyIncreasing (map (λ t. t.0) l)) e up

      go : (b : Bool) → nat_eq t.0 0 ≡ b → In 0 (t.0 ∷ map (λ t. t.0) rest) → b ≡ true
      go true q k = refl
      go false q k = ⊎_elim (λ z. sym q ∙ eq_true t.0 0 (sym z))
          (λ r. no_zero t.0 (map (λ t. t.0) rest) rises r (above_zero t.0 q))
          (cons_in t.0 (map (λ t. t.0) rest) k)

  pub no_tag : slice_get ts 0 ≡ None → false ≡ has_int A f
  no_tag none = go ts refl none
    where
      go : (us : List TagId) → ts ≡ us → slice_get us 0 ≡ None → false ≡ has_int A f
      go [] e k = without e
      go (u ∷ us) e k = cc

  pub first_tag : (t : TagId) → slice_get ts 0 ≡ Some t → nat_eq t.0 0 ≡ has_int A f
  first_tag t some = go ts refl some
    where
      go : (us : List TagId) → ts ≡ us → slice_get us 0 ≡ Some t → nat_eq t.0 0 ≡ has_int A f
      go [] e k = cc
      go (u ∷ us) e k = let same : u ≡ t = cc in ap (λ t. nat_eq t.0 0) (sym same) ∙ with_first u us
          e
