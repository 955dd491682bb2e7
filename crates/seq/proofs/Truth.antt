-- Truth values.
use Rattle.std.proofs.Common.{◌≡◌, Bool, true, false, refl, sym, inl, inr}
use Rattle.std.specs.Prelude.{◌⊎◌, ◌&&◌, ◌||◌, not, IsTrue}

pub two_ways : (b : Bool) → (b ≡ true) ⊎ (b ≡ false)
two_ways true = inl refl
two_ways false = inr refl

pub true_not_false : {X : Type 0} → true ≡ false → X
true_not_false e = absurd cc

pub false_not_true : {X : Type 0} → false ≡ true → X
false_not_true e = absurd cc

pub not_both : {X : Type 0} (b : Bool) → b ≡ true → b ≡ false → X
not_both b h k = absurd cc

pub not_true : (b : Bool) → not b ≡ true → b ≡ false
not_true true e = cc
not_true false e = refl

pub both_ways : (a b : Bool) → (a ≡ true → b ≡ true) → (b ≡ true → a ≡ true) → a ≡ b
both_ways true b h k = sym (h refl)
both_ways false true h k = k refl
both_ways false false h k = refl

-- ---- and

pub and_true : (a : Bool) → (a && true) ≡ a
and_true true = refl
and_true false = refl

pub and_false : (a : Bool) → (a && false) ≡ false
and_false true = refl
and_false false = refl

pub and_assoc : (a b c : Bool) → ((a && b) && c) ≡ (a && (b && c))
and_assoc true b c = refl
and_assoc false b c = refl

pub and_left : (a b : Bool) → (a && b) ≡ true → a ≡ true
and_left true b e = refl
and_left false b e = e

pub and_right : (a b : Bool) → (a && b) ≡ true → b ≡ true
and_right true b e = e
and_right false b e = absurd cc

pub and_parts : (a b : Bool) → (a && b) ≡ true → (a ≡ true) × (b ≡ true)
and_parts true b e = (refl, e)
and_parts false b e = absurd cc

pub and_from : (a b : Bool) → a ≡ true → b ≡ true → (a && b) ≡ true
and_from true b e f = f
and_from false b e f = absurd cc

pub and_not_right : (a b : Bool) → b ≡ false → (a && b) ≡ false
and_not_right true b e = e
and_not_right false b e = refl

-- ---- or

pub or_false : (a : Bool) → (a || false) ≡ a
or_false true = refl
or_false false = refl

pub or_true : (a : Bool) → (a || true) ≡ true
or_true true = refl
or_true false = refl

pub or_assoc : (a b c : Bool) → (a || (b || c)) ≡ ((a || b) || c)
or_assoc true b c = refl
or_assoc false b c = refl

pub or_left : (a b : Bool) → a ≡ true → (a || b) ≡ true
or_left true b e = refl
or_left false b e = absurd cc

pub or_right : (a b : Bool) → b ≡ true → (a || b) ≡ true
or_right true b e = refl
or_right false b e = e

pub or_cases : (a b : Bool) → (a || b) ≡ true → (a ≡ true) ⊎ (b ≡ true)
or_cases true b e = inl refl
or_cases false b e = inr e

pub or_from : (a b : Bool) → a ≡ true ⊎ b ≡ true → (a || b) ≡ true
or_from true b h = refl
or_from false b (inl e) = absurd cc
or_from false b (inr e) = e

pub neither_left : (a b : Bool) → (a || b) ≡ false → a ≡ false
neither_left true b e = e
neither_left false b e = refl

pub neither_right : (a b : Bool) → (a || b) ≡ false → b ≡ false
neither_right true b e = absurd cc
neither_right false b e = e

pub true_left : (a b : Bool) → IsTrue a → IsTrue (a || b)
true_left true b e = refl
true_left false b e = absurd cc

pub true_right : (a b : Bool) → IsTrue b → IsTrue (a || b)
true_right true b e = refl
true_right false b e = e
