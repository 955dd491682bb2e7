-- The first place among those that several walks add.
use Rattle.std.proofs.Common.{◌≡◌, ℕ, ◌<◌, ◌≤◌, Bool, true, false, refl, sym, ap, subst, arith, Option, Some, None, ◌⊎◌, inl, inr}
use Rattle.std.specs.Prelude.{nat_lt, if◌then◌else◌}
use Rattle.seq.proofs.Truth.{two_ways}
use Rattle.core_types.specs.Found.{IsFirstPlaceWhere, earlier_place_if}

pub lt_true : (a b : ℕ) → nat_lt a b ≡ true → a < b
lt_true a b e = grind (arith, e)

pub lt_false : (a b : ℕ) → nat_lt a b ≡ false → b ≤ a
lt_false a b e = grind (arith, e)

pub same_first : (P Q : ℕ → Type 0) → ((at : ℕ) → P at → Q at) → ((at : ℕ) → Q at → P at)
    → (o : Option ℕ) → IsFirstPlaceWhere P o → IsFirstPlaceWhere Q o
same_first P Q to from None h = λ at q. h at (from at q)
same_first P Q to from (Some a) h = (to a h.0, λ at q. h.1 at (from at q))

-- a test passes, and this is the place
abbrev pub Here : Bool → ℕ → ℕ → Type 0
Here b a at = (b ≡ true) × (a ≡ at)

-- A walk adds the places of which Q holds to those of which something else holds.
abbrev pub Adds : (ℕ → Type 0) → (Option ℕ → Option ℕ) → Type 1
Adds Q walk = (P : ℕ → Type 0) (o : Option ℕ) → IsFirstPlaceWhere P o
    → IsFirstPlaceWhere (λ at. P at ⊎ Q at) (walk o)

false_here : (P : ℕ → Type 0) (a at : ℕ) → P at ⊎ Here false a at → P at
false_here P a at (inl p) = p
false_here P a at (inr q) = absurd cc

here_first : (b : Bool) (a : ℕ) (P : ℕ → Type 0) (o : Option ℕ) → IsFirstPlaceWhere P o
    → IsFirstPlaceWhere (λ at. P at ⊎ Here b a at) (earlier_place_if b o a)
here_first false a P o h = same_first P (λ at. P at ⊎ Here false a at) (λ at p. inl p)
    (false_here P a) o h
here_first true a P None h = (
  inr (refl, refl),
  λ at q. elim q
      [ inl p ↦ absurd (h at p) | inr w ↦ (let e = w.1 in omega (arith, e)) ],
)
here_first true a P (Some c) h = elim (two_ways (nat_lt a c)) [
  | inl y ↦ subst (IsFirstPlaceWhere (λ at. P at ⊎ Here true a at))
      (ap (λ b. if b then Some a else Some c) (sym y)) (
        inr (refl, refl),
        λ at q. elim q [
          | inl p ↦ (let l = h.1 at p in let m = lt_true a c y in omega (arith, l, m))
          | inr w ↦
              (let e = w.1 in omega (arith, e))
        ],
      )
  | inr n ↦ subst (IsFirstPlaceWhere (λ at. P at ⊎ Here true a at))
      (ap (λ b. if b then Some a else Some c) (sym n)) (
        inl h.0,
        λ at q. elim q [
          | inl p ↦ h.1 at p
          | inr w ↦
              (let e = w.1 in let m = lt_false a c n in omega (arith, e, m))
        ],
      )
]

pub here_adds : (b : Bool) (a : ℕ) → Adds (Here b a) (λ o. earlier_place_if b o a)
here_adds b a = λ P o h. here_first b a P o h

regroup : (A B C : Type 0) → (A ⊎ B) ⊎ C → A ⊎ (B ⊎ C)
regroup A B C (inl (inl a)) = inl a
regroup A B C (inl (inr b)) = inr (inl b)
regroup A B C (inr c) = inr (inr c)

regroup_back : (A B C : Type 0) → A ⊎ (B ⊎ C) → (A ⊎ B) ⊎ C
regroup_back A B C (inl a) = inl (inl a)
regroup_back A B C (inr (inl b)) = inl (inr b)
regroup_back A B C (inr (inr c)) = inr c

-- one walk after the other
pub then_adds : (Q R : ℕ → Type 0) (f g : Option ℕ → Option ℕ) → Adds Q f → Adds R g
    → Adds (λ at. Q at ⊎ R at) (λ o. g (f o))
then_adds Q R f g a b = λ P o h.
    same_first (λ at. (P at ⊎ Q at) ⊎ R at) (λ at. P at ⊎ (Q at ⊎ R at))
    (λ at. regroup (P at) (Q at) (R at)) (λ at. regroup_back (P at) (Q at) (R at)) (g (f o))
    (b (λ at. P at ⊎ Q at) (f o) (a P o h))

left_only : (P : ℕ → Type 0) (at : ℕ) → P at ⊎ ⊥ → P at
left_only P at (inl p) = p
left_only P at (inr q) = absurd q

pub none_adds : Adds (λ at. ⊥) (λ o. o)
none_adds = λ P o h. same_first P (λ at. P at ⊎ ⊥) (λ at p. inl p) (left_only P) o h

over : (P Q R : ℕ → Type 0) → ((at : ℕ) → Q at → R at) → (at : ℕ) → P at ⊎ Q at → P at ⊎ R at
over P Q R to at (inl p) = inl p
over P Q R to at (inr q) = inr (to at q)

pub same_adds : (Q R : ℕ → Type 0) (f : Option ℕ → Option ℕ) → ((at : ℕ) → Q at → R at)
    → ((at : ℕ) → R at → Q at) → Adds Q f → Adds R f
same_adds Q R f to from a = λ P o h. same_first (λ at. P at ⊎ Q at) (λ at. P at ⊎ R at)
    (over P Q R to) (over P R Q from) (f o) (a P o h)

nothing : ℕ → Type 0
nothing at = ⊥

right_only : (Q : ℕ → Type 0) (at : ℕ) → nothing at ⊎ Q at → Q at
unfolding nothing
right_only Q at (inl p) = absurd p
right_only Q at (inr q) = q

none_first : IsFirstPlaceWhere nothing None
unfolding nothing
none_first = λ at h. h

-- a walk from nothing on
pub all_added : (Q : ℕ → Type 0) (f : Option ℕ → Option ℕ) → Adds Q f → IsFirstPlaceWhere Q (f None)
all_added Q f a = same_first (λ at. nothing at ⊎ Q at) Q (right_only Q) (λ at q. inr q) (f None)
    (a nothing None none_first)
