-- What the first of a list that a test accepts says.
use Rattle.std.proofs.Common.{◌≡◌, ℕ, zero, suc, Bool, true, false, List, [], ◌∷◌, refl, sym, ap, ◌∙◌, Some, None}
use Rattle.std.specs.Prelude.{cond, slice_get}
use Rattle.std.specs.List.{find}
use Rattle.seq.proofs.Lists.{none_is_some, some_is}

pub find_none : {X : Type 0} (test : X → Bool) (xs : List X) (i : ℕ) (x : X) → find test xs ≡ None
    → slice_get xs i ≡ Some x → test x ≡ false
find_none test [] i x e h = none_is_some h
find_none test (y ∷ ys) i x e h = by_test (test y) refl e i h (λ e i h. find_none test ys i x e h)
  where
    by_test : (b : Bool) → test y ≡ b → cond b (Some y) (find test ys) ≡ None → (i : ℕ)
        → slice_get (y ∷ ys) i ≡ Some x →
        (find test ys ≡ None → (i : ℕ) → slice_get ys i ≡ Some x → test x ≡ false) → test x ≡ false
    by_test true q e i h k = none_is_some (sym e)
    by_test false q e zero h k = ap test (sym (some_is h)) ∙ q
    by_test false q e (suc i) h k = k e i h

pub find_some : {X : Type 0} (test : X → Bool) (xs : List X) (x : X) → find test xs ≡ Some x
    → (i : ℕ) × (slice_get xs i ≡ Some x) × (test x ≡ true)
find_some test [] x e = none_is_some e
find_some test (y ∷ ys) x e = by_test (test y) refl e (find_some test ys x)
  where
    by_test : (b : Bool) → test y ≡ b → cond b (Some y) (find test ys) ≡ Some x
        → (find test ys ≡ Some x → (i : ℕ) × (slice_get ys i ≡ Some x) × (test x ≡ true)) → (i : ℕ)
        × (slice_get (y ∷ ys) i ≡ Some x) × (test x ≡ true)
    by_test true q e k = (0, e, ap test (sym (some_is e)) ∙ q)
    by_test false q e k = let r = k e in (suc r.0, r.1, r.2)
