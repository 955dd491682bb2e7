-- A class goes into another one.
use Rattle.std.proofs.Common.{◌≡◌, ◌<◌, ◌+◌, ℕ, zero, suc, List, [], ◌∷◌, ◌++◌, length, get_or, take, Option, Some, None, slice_get, slice_set, refl, sym, ap, ◌∙◌, subst, ⊎_elim, arith}
use Rattle.std.proofs.lemmas.List.{get_or-set_same, get_or-set_other, get_or_append_left, get_or_push, length_push, take_more}
use Rattle.seq.specs.Lists.{In, here, or_empty}
use Rattle.seq.proofs.Lists.{get_set, length_set}
use Rattle.seq.proofs.Member.{none_in, one_in, in_left, in_right, in_split}
use Rattle.seq.proofs.Order.{same_or_not}
use Rattle.unification.specs.declared.classes.Classes.{Classes}
use Rattle.unification.specs.declared.term.Symbol.{Symbol}
use Rattle.unification.specs.declared.term.Term.{Term}
use Rattle.unification.specs.Classes.{members_of, IsPartition, AreSingletons, preferred, moved, ClassesAreMerged}
use Rattle.unification.specs.Shown.{class_of, kept_of}
use Rattle.unification.specs.Terms.{symbol_of}
use Rattle.unification.proofs.Basics.{if_same, if_not, set_other, read_at, get_in}
use Rattle.unification.proofs.Values.{either}

pub moved_same : (a b r : ℕ) → r ≡ a → moved a b r ≡ b
moved_same a b r e = ap (moved a b) e ∙ if_same a b a

pub moved_not : (a b r : ℕ) → (r ≡ a → ⊥) → moved a b r ≡ r
moved_not a b r q = if_not r a b r q

pub preferred_some : (terms : List Term) (x y : ℕ) (s : Symbol) → symbol_of terms x ≡ Some s
    → preferred terms x y ≡ x
preferred_some terms x y s e = ap (λ (o : Option Symbol). elim o [ Some s ↦ x | None ↦ y ]) e

pub preferred_none : (terms : List Term) (x y : ℕ) → symbol_of terms x ≡ None
    → preferred terms x y ≡ y
preferred_none terms x y e = ap (λ (o : Option Symbol). elim o [ Some s ↦ x | None ↦ y ]) e

pub preferred_either : (P : ℕ → Type 0) (terms : List Term) (x y : ℕ) → P x → P y
    → P (preferred terms x y)
preferred_either P terms x y p q = either terms (P (preferred terms x y)) x
    (λ s e. subst P (sym (preferred_some terms x y s e)) p)
    (λ e. subst P (sym (preferred_none terms x y e)) q)

-- one class more, of one term
pub length_pushed : {X : Type 0} (xs ys : List X) (x : X) (n : ℕ) → ys ≡ xs ++ x ∷ []
    → length xs ≡ n → length ys ≡ n + 1
length_pushed xs ys x n e l = ap length e ∙ length_push xs x ∙ ap (λ k. k + 1) l

pub number_pushed : (xs ys : List ℕ) (n : ℕ) → ys ≡ xs ++ n ∷ [] → length xs ≡ n
    → ((i : ℕ) → i < n → get_or xs i 0 ≡ i) → (i : ℕ) → i < n + 1 → get_or ys i 0 ≡ i
number_pushed xs ys n e l h i k = ap (λ zs. get_or zs i 0) e ∙ ⊎_elim
    (λ (q : i ≡ n). ap (λ j. get_or (xs ++ n ∷ []) j 0) q ∙ get_or_push xs n 0 n l ∙ sym q)
    (λ (q : i ≡ n → ⊥). get_or_append_left xs (n ∷ []) 0 i (below q) ∙ h i (before q))
    (same_or_not i n)
  where
    before : (i ≡ n → ⊥) → i < n
    before q = omega (arith, k, q)

    below : (i ≡ n → ⊥) → i < length xs
    below q = omega (arith, k, q, l)

pub empty_pushed : (xs : List (List ℕ)) → ((i : ℕ) → or_empty (slice_get xs i) ≡ []) → (i : ℕ)
    → or_empty (slice_get (xs ++ [] ∷ []) i) ≡ []
empty_pushed [] h zero = refl
empty_pushed [] h (suc i) = refl
empty_pushed (x ∷ xs) h zero = h zero
empty_pushed (x ∷ xs) h (suc i) = empty_pushed xs (λ j. h (suc j)) i

-- one term more is put in another class
module _ (xs class class' first : List ℕ) (k to : ℕ) (lk : k < length xs)
    (within : (i : ℕ) → In i xs → i < length class)
    (e : class' ≡ slice_set class (get_or xs k 0) to) where
  item_in : In (get_or xs k 0) xs
  item_in = get_in xs k (get_or xs k 0) (read_at xs k lk)

  pub more_moved : ((i : ℕ) → In i (take k xs) → get_or class i 0 ≡ to) → (i : ℕ)
      → In i (take (k + 1) xs) → get_or class' i 0 ≡ to
  more_moved old i h = ⊎_elim
      (λ (q : i ≡ get_or xs k 0). ap (λ l. get_or l i 0) e ∙ ap
      (λ j. get_or (slice_set class (get_or xs k 0) to) j 0) q ∙ get_or-set_same class
      (get_or xs k 0) to 0 (within (get_or xs k 0) item_in))
      (λ (q : i ≡ get_or xs k 0 → ⊥). ap (λ l. get_or l i 0) e ∙ get_or-set_other class
      (get_or xs k 0) i to 0 q
      ∙ ⊎_elim (λ j. old i j) (λ j. absurd (q (one_in (get_or xs k 0) j)))
      (in_split (take k xs) (get_or xs k 0 ∷ []) (subst (In i) (take_more xs k 0 lk) h)))
      (same_or_not i (get_or xs k 0))

  pub others_stay : ((i : ℕ) → (In i xs → ⊥) → get_or class i 0 ≡ get_or first i 0) → (i : ℕ)
      → (In i xs → ⊥) → get_or class' i 0 ≡ get_or first i 0
  others_stay old i q =
      ap (λ l. get_or l i 0) e ∙ get_or-set_other class (get_or xs k 0) i to 0
      (λ z. q (subst (λ x. In x xs) (sym z) item_in)) ∙ old i q

pub single_partition : (n : ℕ) (c : Classes) → AreSingletons n c → IsPartition n c
single_partition n c s = record {
  classes = s.classes;
  keeps = s.keeps;
  groups = s.groups;
  within = λ i l. subst (λ k. k < n) (sym (s.alone i l)) l;
  flat = λ i l. ap (class_of c) (s.alone i l);
  listed = λ i l q. absurd (q (s.alone i l));
  members = λ r i l h. none_in (subst (In i) (s.none r l) h);
  kept = λ r l e. (subst (λ k. k < n) (sym (s.kept r l)) l, ap (class_of c) (s.kept r l) ∙ e);
}

module _ (terms : List Term) (c c' : Classes) (a b : ℕ) (ms : List ℕ)
    (p : IsPartition (length terms) c) (la : a < length terms) (lb : b < length terms)
    (ra : class_of c a ≡ a) (rb : class_of c b ≡ b) (ne : a ≡ b → ⊥)
    (em : ms ≡ members_of c a ++ a ∷ []) where
  in_moved : (i : ℕ) → i < length terms → class_of c i ≡ a → In i ms
  in_moved i l e = subst (In i) (sym em) (⊎_elim
      (λ (q : i ≡ a). in_right (members_of c a) (a ∷ []) (subst (λ x. In x (a ∷ [])) (sym q) here))
      (λ (q : i ≡ a → ⊥). in_left (members_of c a) (a ∷ [])
      (subst (λ r. In i (members_of c r)) e (p.listed i l (λ z. q (sym z ∙ e)))))
      (same_or_not i a))

  pub from_moved : (i : ℕ) → In i ms → (i < length terms) × (class_of c i ≡ a)
  from_moved i h = ⊎_elim
      (λ k. p.members a i la k)
      (λ k. (
        subst (λ x. x < length terms) (sym (one_in a k)) la,
        ap (class_of c) (one_in a k) ∙ ra,
      ))
      (in_split (members_of c a) (a ∷ []) (subst (In i) em h))

  module _ (lc : length c'.class.items ≡ length c.class.items)
      (to : (i : ℕ) → In i ms → class_of c' i ≡ b)
      (others : (i : ℕ) → (In i ms → ⊥) → class_of c' i ≡ class_of c i)
      (mm : c'.members.items ≡ slice_set (slice_set c.members.items a []) b
      (or_empty (slice_get (slice_set c.members.items a []) b) ++ ms))
      (kk : c'.kept.items ≡ slice_set c.kept.items b (preferred terms (kept_of c b) (kept_of c a)))
    where
      abbrev lists : List (List ℕ)
      lists = slice_set c.members.items a []

      its_class : (i : ℕ) → i < length terms → class_of c' i ≡ moved a b (class_of c i)
      its_class i l = ⊎_elim
          (λ (q : class_of c i ≡ a). to i (in_moved i l q) ∙ sym (moved_same a b (class_of c i) q))
          (λ (q : class_of c i ≡ a → ⊥). others i (λ h. q (from_moved i h).1) ∙ sym
          (moved_not a b (class_of c i) q))
          (same_or_not (class_of c i) a)

      of_a : (i : ℕ) → i < length terms → class_of c i ≡ a → class_of c' i ≡ b
      of_a i l e = its_class i l ∙ moved_same a b (class_of c i) e

      of_other : (i : ℕ) → i < length terms → (class_of c i ≡ a → ⊥) → class_of c' i ≡ class_of c i
      of_other i l q = its_class i l ∙ moved_not a b (class_of c i) q

      of_class : (i r : ℕ) → i < length terms → class_of c i ≡ r → (r ≡ a → ⊥) → class_of c' i ≡ r
      of_class i r l e q = of_other i l (λ z. q (sym e ∙ z)) ∙ e

      b_not_a : b ≡ a → ⊥
      b_not_a e = ne (sym e)

      members_b : members_of c' b ≡ members_of c b ++ ms
      members_b = ap (λ l. or_empty (slice_get l b)) mm
          ∙ ap or_empty
          (get_set lists b (or_empty (slice_get lists b) ++ ms)
          (subst (λ k. b < k) (sym (length_set c.members.items a [] ∙ p.groups)) lb))
          ∙ ap (λ o. or_empty o ++ ms) (set_other c.members.items a b [] b_not_a)

      members_else : (r : ℕ) → (r ≡ b → ⊥) → members_of c' r ≡ or_empty
          (slice_get (slice_set c.members.items a []) r)
      members_else r q = ap (λ l. or_empty (slice_get l r)) mm ∙ ap or_empty
          (set_other (slice_set c.members.items a []) b r
          (or_empty (slice_get (slice_set c.members.items a []) b) ++ ms) q)

      members_a : members_of c' a ≡ []
      members_a = members_else a ne ∙ ap or_empty
          (get_set c.members.items a [] (subst (λ k. a < k) (sym p.groups) la))

      members_other : (r : ℕ) → (r ≡ b → ⊥) → (r ≡ a → ⊥) → members_of c' r ≡ members_of c r
      members_other r q z = members_else r q ∙ ap or_empty (set_other c.members.items a r [] z)

      kept_b : kept_of c' b ≡ preferred terms (kept_of c b) (kept_of c a)
      kept_b = ap (λ l. get_or l b 0) kk ∙ get_or-set_same c.kept.items b
          (preferred terms (kept_of c b) (kept_of c a)) 0 (subst (λ k. b < k) (sym p.keeps) lb)

      kept_other : (r : ℕ) → (r ≡ b → ⊥) → kept_of c' r ≡ kept_of c r
      kept_other r q = ap (λ l. get_or l r 0) kk ∙ get_or-set_other c.kept.items b r
          (preferred terms (kept_of c b) (kept_of c a)) 0 q

      flat' : (i : ℕ) → i < length terms → class_of c' (class_of c' i) ≡ class_of c' i
      flat' i l = ⊎_elim
          (λ (q : class_of c i ≡ a). ap (class_of c') (of_a i l q) ∙ of_class b b lb rb b_not_a ∙ sym
          (of_a i l q))
          (λ (q : class_of c i ≡ a → ⊥).
          ap (class_of c') (of_other i l q)
          ∙ of_class (class_of c i) (class_of c i) (p.within i l) (p.flat i l) q
          ∙ sym (of_other i l q))
          (same_or_not (class_of c i) a)

      listed' : (i : ℕ) → i < length terms → (class_of c' i ≡ i → ⊥)
          → In i (members_of c' (class_of c' i))
      listed' i l z = ⊎_elim
          (λ (q : class_of c i ≡ a). subst (λ r. In i (members_of c' r)) (sym (of_a i l q))
          (subst (In i) (sym members_b) (in_right (members_of c b) ms (in_moved i l q))))
          (λ (q : class_of c i ≡ a → ⊥).
          let h : In i (members_of c (class_of c i)) = p.listed i l (λ y. z (of_other i l q ∙ y)) in
          subst (λ r. In i (members_of c' r)) (sym (of_other i l q)) (in_class i (class_of c i) q h))
          (same_or_not (class_of c i) a)
        where
          in_class : (i r : ℕ) → (r ≡ a → ⊥) → In i (members_of c r) → In i (members_of c' r)
          in_class i r q h = ⊎_elim
              (λ (y : r ≡ b). subst (λ r. In i (members_of c' r)) (sym y)
              (subst (In i) (sym members_b)
              (in_left (members_of c b) ms (subst (λ r. In i (members_of c r)) y h))))
              (λ (y : r ≡ b → ⊥). subst (In i) (sym (members_other r y q)) h)
              (same_or_not r b)

      members' : (r i : ℕ) → r < length terms → In i (members_of c' r) → (i < length terms)
          × (class_of c' i ≡ r)
      members' r i l h = ⊎_elim
          (λ (q : r ≡ b). ⊎_elim
          (λ k. let m = p.members b i lb k in (m.0, of_class i b m.0 m.1 b_not_a ∙ sym q))
          (λ k. let m = from_moved i k in (m.0, to i k ∙ sym q))
          (in_split (members_of c b) ms (subst (In i) (ap (members_of c') q ∙ members_b) h)))
          (λ (q : r ≡ b → ⊥). ⊎_elim
          (λ (z : r ≡ a). none_in (subst (In i) (ap (members_of c') z ∙ members_a) h))
          (λ (z : r ≡ a → ⊥). let m = p.members r i l (subst (In i) (members_other r q z) h)
          in (m.0, of_class i r m.0 m.1 z))
          (same_or_not r a))
          (same_or_not r b)

      kept' : (r : ℕ) → r < length terms → class_of c' r ≡ r → (kept_of c' r < length terms)
          × (class_of c' (kept_of c' r) ≡ r)
      kept' r l e = ⊎_elim
          (λ (q : r ≡ b). subst
          (λ r. (kept_of c' r < length terms) × (class_of c' (kept_of c' r) ≡ r)) (sym q)
          (subst (λ k. (k < length terms) × (class_of c' k ≡ b)) (sym kept_b)
          (preferred_either (λ k. (k < length terms) × (class_of c' k ≡ b)) terms (kept_of c b)
          (kept_of c a)
          (let k = p.kept b lb rb in (k.0, of_class (kept_of c b) b k.0 k.1 b_not_a))
          (let k = p.kept a la ra in (k.0, of_a (kept_of c a) k.0 k.1)))))
          (λ (q : r ≡ b → ⊥).
          let z : class_of c r ≡ a → ⊥ = λ y. q (sym e ∙ of_a r l y) in
          let own : class_of c r ≡ r = sym (of_other r l z) ∙ e in
          let k = p.kept r l own in
          subst (λ k. (k < length terms) × (class_of c' k ≡ r)) (sym (kept_other r q))
          (k.0, of_class (kept_of c r) r k.0 k.1 (λ y. z (own ∙ y))))
          (same_or_not r b)

      pub are_joined : ClassesAreMerged terms c c' a b
      are_joined = record {
        partition = record {
          classes = lc ∙ p.classes;
          keeps = ap length kk ∙ length_set c.kept.items b
              (preferred terms (kept_of c b) (kept_of c a)) ∙ p.keeps;
          groups = ap length mm ∙ length_set (slice_set c.members.items a []) b
              (or_empty (slice_get (slice_set c.members.items a []) b) ++ ms) ∙ length_set
              c.members.items a [] ∙ p.groups;
          within = λ i l. ⊎_elim
              (λ (q : class_of c i ≡ a). subst (λ k. k < length terms) (sym (of_a i l q)) lb)
              (λ (q : class_of c i ≡ a → ⊥). subst (λ k. k < length terms) (sym (of_other i l q))
              (p.within i l))
              (same_or_not (class_of c i) a);
          flat = flat';
          listed = listed';
          members = members';
          kept = kept';
        };
        classes = its_class;
        kept = kept_b;
        others = kept_other;
      }
