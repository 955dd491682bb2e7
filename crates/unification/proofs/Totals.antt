-- Sums over the numbers below one, where one or two of them change.
use Rattle.std.proofs.Common.{◌≡◌, ◌<◌, ◌+◌, ℕ, zero, suc, refl, sym, ap, ◌∙◌, subst, ⊎_elim, arith}
use Rattle.std.specs.Prelude.{if◌then◌else◌, ◌==◌}
use Rattle.seq.proofs.Order.{same_or_not}
use Rattle.unification.specs.Classes.{total}
use Rattle.unification.proofs.Basics.{if_same, if_not}

pub total_same : (f g : ℕ → ℕ) (n : ℕ) → ((r : ℕ) → r < n → f r ≡ g r) → total f n ≡ total g n
total_same f g zero h = refl
total_same f g (suc n) h =
    let e : f n ≡ g n = h n (omega arith) in
    let k : total f n ≡ total g n = total_same f g n (λ r l. h r (omega arith)) in
    omega (arith, e, k)

pub total_more : (f g : ℕ → ℕ) (n a d : ℕ) → a < n → ((r : ℕ) → r < n → (r ≡ a → ⊥) → f r ≡ g r)
    → f a ≡ g a + d → total f n ≡ total g n + d
total_more f g zero a d l h e = absurd (omega arith)
total_more f g (suc n) a d l h e = ⊎_elim
    (λ (q : n ≡ a).
    let k : total f n ≡ total g n = total_same f g n
    (λ r i. h r (omega arith) (λ z. absurd (omega arith))) in
    let e2 : f n ≡ g n + d = subst (λ x. f x ≡ g x + d) (sym q) e in
    omega (arith, k, e2))
    (λ (q : n ≡ a → ⊥).
    let lt : a < n = below q in
    let k : total f n ≡ total g n + d = total_more f g n a d lt (λ r i z. h r (omega arith) z) e in
    let e2 : f n ≡ g n = h n (omega arith) q in
    omega (arith, k, e2))
    (same_or_not n a)
  where
    below : (n ≡ a → ⊥) → a < n
    below q = omega (arith, l, q)

pub from_zero : {x m k : ℕ} → x ≡ k → m ≡ 0 → x ≡ m + k
from_zero p q = omega (arith, p, q)

-- what is left without class a
abbrev without : (ℕ → ℕ) → ℕ → ℕ → ℕ
without f a r = if r == a then 0 else f r

without_same : (f : ℕ → ℕ) (a : ℕ) → without f a a ≡ 0
without_same f a = if_same a 0 (f a)

without_not : (f : ℕ → ℕ) (a r : ℕ) → (r ≡ a → ⊥) → without f a r ≡ f r
without_not f a r q = if_not r a 0 (f r) q

-- Class a gives what it has to class b, which had nothing, or loses it.
pub total_given : (f g : ℕ → ℕ) (n a b k : ℕ) → a < n → b < n → (a ≡ b → ⊥)
    → ((r : ℕ) → r < n → (r ≡ a → ⊥) → (r ≡ b → ⊥) → g r ≡ f r)
    → f a ≡ k → g a ≡ 0 → f b ≡ 0 → g b ≡ k → total f n ≡ total g n
total_given f g n a b k la lb ne h fa ga fb gb =
    total_more f (without f a) n a k la (λ r i z. sym (without_not f a r z))
    (from_zero fa (without_same f a))
    ∙ sym (total_more g (without f a) n b k lb
    (λ r i z. ⊎_elim (λ q. ap g q ∙ ga ∙ sym (without_same f a) ∙ ap (without f a) (sym q))
    (λ q. h r i q z ∙ sym (without_not f a r q)) (same_or_not r a))
    (from_zero gb (without_not f a b (λ q. ne (sym q)) ∙ fb)))
