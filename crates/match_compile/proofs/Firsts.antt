-- The first of some refusals.
use Rattle.std.proofs.Common.{◌≡◌, ℕ, ◌<◌, ◌≤◌, true, false, List, [], ◌∷◌, refl, sym, ap, subst, ◌∙◌, arith, Some, None, ◌⊎◌, inl, inr}
use Rattle.std.specs.Prelude.{nat_lt, ◌==◌, ◌&&◌, ◌||◌, if◌then◌else◌}
use Rattle.seq.specs.Lists.{In, here, there}
use Rattle.seq.proofs.Truth.{two_ways}
use Rattle.match_compile.specs.declared.refusal.MatchRefusal.{MatchRefusal}
use Rattle.match_compile.specs.Refusal.{rule, place, precedes, earlier_refusal, least_refusal}
use Rattle.std.proofs.lemmas.Bool.Decides.{nat_tests}

-- one is not after the other
abbrev pub NoLater : MatchRefusal → MatchRefusal → Type 0
NoLater r q = (place r < place q) ⊎ ((place r ≡ place q) × (rule r ≤ rule q))

first_by : (a b m n : ℕ) → (nat_lt a b || ((a == b) && nat_lt m n)) ≡ true → (a < b)
    ⊎ ((a ≡ b) × (m ≤ n))
first_by a b m n e = grind (arith, nat_tests)

other_by : (a b m n : ℕ) → (nat_lt a b || ((a == b) && nat_lt m n)) ≡ false → (b < a)
    ⊎ ((b ≡ a) × (n ≤ m))
other_by a b m n e = grind (arith, nat_tests)

is_first : (r q : MatchRefusal) → precedes r q ≡ true → NoLater r q
is_first r q e = first_by (place r) (place q) (rule r) (rule q) e

is_later : (r q : MatchRefusal) → precedes r q ≡ false → NoLater q r
is_later r q e = other_by (place r) (place q) (rule r) (rule q) e

itself : (r : MatchRefusal) → NoLater r r
itself r = inr (refl, omega arith)

trans_by : (a b c m n o : ℕ) → (a < b) ⊎ ((a ≡ b) × (m ≤ n)) → (b < c) ⊎ ((b ≡ c) × (n ≤ o))
    → (a < c) ⊎ ((a ≡ c) × (m ≤ o))
trans_by a b c m n o (inl h) (inl g) = inl (omega arith)
trans_by a b c m n o (inl h) (inr g) = inl (omega (arith, g.0))
trans_by a b c m n o (inr h) (inl g) = inl (omega (arith, h.0))
trans_by a b c m n o (inr h) (inr g) = inr (h.0 ∙ g.0, omega (arith, h.1, g.1))

trans : (r q s : MatchRefusal) → NoLater r q → NoLater q s → NoLater r s
trans r q s h g = trans_by (place r) (place q) (place s) (rule r) (rule q) (rule s) h g

-- this is among these and one more, and none is before it
record First (o r : MatchRefusal) (rs : List MatchRefusal) : Type 0 where
  among : (o ≡ r) ⊎ In r rs
  first : NoLater r o
  all : (q : MatchRefusal) → In q rs → NoLater r q

with_one : (x r : MatchRefusal) (rs : List MatchRefusal) → NoLater r x
    → ((q : MatchRefusal) → In q rs → NoLater r q) → (q : MatchRefusal) → In q (x ∷ rs)
    → NoLater r q
with_one x r rs h all q here = h
with_one x r rs h all q (there i) = all q i

some_same : (a b : MatchRefusal) → Some a ≡ Some b → a ≡ b
some_same a b e = cc

first : (o r : MatchRefusal) (rs : List MatchRefusal) → least_refusal (Some o) rs ≡ Some r
    → First o r rs
unfolding earlier_refusal
first o r [] e = record {
  among = inl (some_same o r e);
  first = subst (λ r. NoLater r o) (some_same o r e) (itself o);
  all = λ q i. elim i [ ];
}
first o r (x ∷ rs) e = elim (two_ways (precedes x o)) [
  | inl y ↦
      let w = first x r rs (ap (λ b. least_refusal (if b then Some x else Some o) rs) (sym y) ∙ e)
      in
      record {
        among = elim w.among
            [ inl s ↦ inr (subst (λ r. In r (x ∷ rs)) s here) | inr i ↦ inr (there i) ];
        first = trans r x o w.first (is_first x o y);
        all = with_one x r rs w.first w.all;
      }
  | inr n ↦
      let w = first o r rs (ap (λ b. least_refusal (if b then Some x else Some o) rs) (sym n) ∙ e)
      in
      record {
        among = elim w.among [ inl s ↦ inl s | inr i ↦ inr (there i) ];
        first = w.first;
        all = with_one x r rs (trans r o x w.first (is_later x o n)) w.all;
      }
]

pub some_first : (rs : List MatchRefusal) (r : MatchRefusal) → least_refusal None rs ≡ Some r
    → In r rs × ((q : MatchRefusal) → In q rs → NoLater r q)
unfolding earlier_refusal
some_first [] r e = absurd cc
some_first (x ∷ rs) r e =
    let w = first x r rs e in (
      elim w.among [ inl s ↦ subst (λ r. In r (x ∷ rs)) s here | inr i ↦ there i ],
      with_one x r rs w.first w.all,
    )

some_stays : (o : MatchRefusal) (rs : List MatchRefusal) → least_refusal (Some o) rs ≡ None → ⊥
unfolding earlier_refusal
some_stays o [] e = cc
some_stays o (x ∷ rs) e = elim (two_ways (precedes x o)) [
  | inl y ↦ some_stays x rs (ap (λ b. least_refusal (if b then Some x else Some o) rs) (sym y) ∙ e)
  | inr n ↦ some_stays o rs (ap (λ b. least_refusal (if b then Some x else Some o) rs) (sym n) ∙ e)
]

pub none_first : (rs : List MatchRefusal) → least_refusal None rs ≡ None → rs ≡ []
unfolding earlier_refusal
none_first [] e = refl
none_first (x ∷ rs) e = absurd (some_stays x rs e)
