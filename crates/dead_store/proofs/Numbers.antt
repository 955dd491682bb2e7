-- Sets of numbers.
use Rattle.std.proofs.Common.{◌≡◌, ℕ, ◌+◌, ◌<◌, ◌≤◌, Bool, true, false, ◌||◌, nat_eq, List, [], ◌∷◌, take, length, get_or, refl, sym, ap, ◌∙◌, subst, ⊎_elim, arith}
use Rattle.std.specs.BTreeMap.{is_at}
use Rattle.std.specs.BTreeSet.{insert_key}
use Rattle.std.specs.Ordering.{nat_cmp, match_ordering}
use Rattle.std.specs.declared.cmp.Ordering.{Ordering}
use Rattle.std.specs.declared.cmp.Ordering.TheVariants.{Less, Equal, Greater}
use Rattle.std.proofs.lemmas.Bool.Decides.{nat_tests}
use Rattle.std.proofs.lemmas.List.{take_more, take_all}
use Rattle.seq.specs.Lists.{In, here, there, is_among}
use Rattle.seq.proofs.Counted.{among_append}
use Rattle.seq.proofs.Member.{none_in, cons_in}
use Rattle.seq.proofs.Order.{eq_self, eq_from}
use Rattle.seq.proofs.Truth.{or_true, or_cases, false_not_true}
use Rattle.flow_system.proofs.Numbered.{nat_equal}
use Rattle.dead_store.specs.Holding.{set_holds}

at_is : (n k : ℕ) → is_at (nat_cmp n) k ≡ nat_eq n k
at_is n k = grind (arith, nat_tests)

pub holds_among : (ks : List ℕ) (n : ℕ) → set_holds ks n ≡ is_among n ks
holds_among [] n = refl
holds_among (k ∷ ks) n = λ i. at_is n k i || holds_among ks n i

among_in : (n : ℕ) (ks : List ℕ) → is_among n ks ≡ true → In n ks
among_in n [] e = false_not_true e
among_in n (k ∷ ks) e = ⊎_elim (λ a. subst (λ m. In n (m ∷ ks)) (eq_from n k a) here)
    (λ b. there (among_in n ks b)) (or_cases (nat_eq n k) (is_among n ks) e)

in_among : (n : ℕ) (ks : List ℕ) → In n ks → is_among n ks ≡ true
in_among n [] h = none_in h
in_among n (k ∷ ks) h = ⊎_elim
    (λ e. subst (λ m. (nat_eq n m || is_among n ks) ≡ true) e
    (ap (λ b. b || is_among n ks) (eq_self n)))
    (λ t. ap (λ b. nat_eq n k || b) (in_among n ks t) ∙ or_true (nat_eq n k))
    (cons_in k ks h)

pub holds_in : (n : ℕ) (ks : List ℕ) → set_holds ks n ≡ true → In n ks
holds_in n ks e = among_in n ks (sym (holds_among ks n) ∙ e)

pub in_holds : (n : ℕ) (ks : List ℕ) → In n ks → set_holds ks n ≡ true
in_holds n ks h = holds_among ks n ∙ in_among n ks h

among_insert : (ks : List ℕ) (k n : ℕ) → is_among n (insert_key nat_cmp ks k) ≡
    (nat_eq n k || is_among n ks)
among_insert [] k n = refl
among_insert (x ∷ ks) k n = go (nat_cmp k x) refl (among_insert ks k n)
  where
    twice : (a b : Bool) → (a || b) ≡ (a || (a || b))
    twice true b = refl
    twice false b = refl

    turned : (a b c d : Bool) → c ≡ (a || d) → (b || c) ≡ (a || (b || d))
    turned true true c d e = refl
    turned true false c d e = e
    turned false true c d e = refl
    turned false false c d e = e

    go : (o : Ordering) → nat_cmp k x ≡ o → is_among n (insert_key nat_cmp ks k) ≡
        (nat_eq n k || is_among n ks) → is_among n
        (match_ordering o (k ∷ x ∷ ks) (x ∷ ks) (x ∷ insert_key nat_cmp ks k)) ≡
        (nat_eq n k || (nat_eq n x || is_among n ks))
    go Less q e = refl
    go Equal q e = twice (nat_eq n x) (is_among n ks) ∙ ap
        (λ m. nat_eq n m || (nat_eq n x || is_among n ks)) (sym (nat_equal k x q))
    go Greater q e = turned (nat_eq n k) (nat_eq n x) (is_among n (insert_key nat_cmp ks k))
        (is_among n ks) e

-- a set has these numbers
pub record HasThose (keys ns : List ℕ) : Type 0 where
  pub by : (n : ℕ) → set_holds keys n ≡ is_among n ns

pub has_none : (keys : List ℕ) → keys ≡ [] → HasThose keys []
has_none keys e = record { by = λ n. ap (λ ks. set_holds ks n) e }

pub one_more : (old new ns : List ℕ) (i d : ℕ) → i < length ns
    → new ≡ insert_key nat_cmp old (get_or ns i d) → HasThose old (take i ns)
    → HasThose new (take (i + 1) ns)
one_more old new ns i d lt e h = record {
  by = λ n. holds_among new n ∙ ap (is_among n) e ∙ among_insert old (get_or ns i d) n ∙ ap
      (λ b. nat_eq n (get_or ns i d) || b) (sym (holds_among old n) ∙ h.by n) ∙ turn
      (nat_eq n (get_or ns i d)) (is_among n (take i ns))
      ∙ sym (among_append n (take i ns) (get_or ns i d ∷ [])) ∙ ap (is_among n)
      (sym (take_more ns i d lt));
}
  where
    turn : (a b : Bool) → (a || b) ≡ (b || (a || false))
    turn true true = refl
    turn true false = refl
    turn false true = refl
    turn false false = refl

pub has_all : (keys ns : List ℕ) (i : ℕ) → length ns ≤ i → HasThose keys (take i ns) → (n : ℕ)
    → set_holds keys n ≡ is_among n ns
has_all keys ns i le h n = h.by n ∙ ap (is_among n) (take_all i ns le)
