-- The tests of the check: what they say of two numbers, of two patterns and of a list.
use Rattle.std.proofs.Common.{◌≡◌, ◌≢◌, ℕ, zero, suc, Bool, true, false, List, [], ◌∷◌, refl, sym, ap, ◌∙◌, Some, inl, inr}
use Rattle.std.specs.Prelude.{◌==◌, not, ◌||◌, slice_get}
use Rattle.std.specs.List.{list_any}
use Rattle.std.proofs.lemmas.Bool.{eqb-true, eq-eqb}
use Rattle.core_reader.specs.declared.syntax.Pattern.{Pattern}
use Rattle.core_reader.specs.declared.syntax.Pattern.TheVariants as pattern
use Rattle.core_reader.specs.Tree.{Con, Int}
use Rattle.arity_check.specs.declared.refusal.CheckRefusal.TheVariants as refusal
use Rattle.arity_check.specs.Scope as scope
use Rattle.arity_check.specs.Broken as broken
use Rattle.arity_check.specs.Patterns.{KindsDiffer}
use Rattle.seq.proofs.Truth.{true_not_false, not_true, two_ways}
use Rattle.arity_check.proofs.Patterns.{kind_of_pattern}

-- ---- tests
pub true_not : (b : Bool) → b ≡ false → not b ≡ true
true_not true e = cc
true_not false e = refl

pub differ : (n m : ℕ) → not (n == m) ≡ true → n ≢ m
differ n m e h = true_not_false (sym (eq-eqb n m h) ∙ not_true (n == m) e)

pub to_differ : (n m : ℕ) → n ≢ m → not (n == m) ≡ true
to_differ n m h = elim (two_ways (n == m))
    [ inl e ↦ absurd (h (eqb-true n m e)) | inr e ↦ true_not (n == m) e ]

pub differs : (q r : Pattern) (b : Bool) → kind_of_pattern q ≡ Some b
    → kind_of_pattern r ≡ Some (not b)
    → KindsDiffer q r
differs (pattern.Con c xs) (pattern.Int n at) b e f = tt
differs (pattern.Int n at) (pattern.Con c xs) b e f = tt
differs (pattern.Con c xs) (pattern.Con d ys) b e f = let s : true ≡ b = cc in let t : true ≡ not b
    = cc in absurd (true_not_false (t ∙ ap not (sym s)))
differs (pattern.Int n at) (pattern.Int m at') b e f = let s : false ≡ b = cc in let t
    : false ≡ not b = cc in absurd (true_not_false (ap not s ∙ sym t))
differs (pattern.Default x) r b e f = absurd cc
differs (pattern.Con c xs) (pattern.Default x) b e f = absurd cc
differs (pattern.Int n at) (pattern.Default x) b e f = absurd cc

-- ---- what is declared
pub any_at : {T : Type 0} (test : T → Bool) (xs : List T) (i : ℕ) (x : T) → slice_get xs i ≡ Some x
    → test x ≡ true → list_any test xs ≡ true
any_at test [] i x e h = absurd cc
any_at test (y ∷ ys) zero x e h = let s : x ≡ y = cc
    in left_or (test y) (list_any test ys) (ap test (sym s) ∙ h)
  where
    left_or : (a b : Bool) → a ≡ true → (a || b) ≡ true
    left_or true b e = refl
    left_or false b e = absurd cc
any_at test (y ∷ ys) (suc i) x e h = right_or (test y) (list_any test ys) (any_at test ys i x e h)
  where
    right_or : (a b : Bool) → b ≡ true → (a || b) ≡ true
    right_or true b e = refl
    right_or false b e = e

pub record AnyAt {T : Type 0} (test : T → Bool) (xs : List T) : Type 0 where
  pub i : ℕ
  pub item : T
  pub is : slice_get xs i ≡ Some item
  pub passes : test item ≡ true

pub from_any : {T : Type 0} (test : T → Bool) (xs : List T) → list_any test xs ≡ true
    → AnyAt test xs
from_any test [] e = absurd cc
from_any test (x ∷ xs) e = go (test x) refl e (from_any test xs)
  where
    go : (b : Bool) → test x ≡ b → (b || list_any test xs) ≡ true
        → (list_any test xs ≡ true → AnyAt test xs) → AnyAt test (x ∷ xs)
    go true h e rest = record { i = zero; item = x; is = refl; passes = h }
    go false h e rest = let w = rest e in record
        { i = suc w.i; item = w.item; is = w.is; passes = w.passes }
