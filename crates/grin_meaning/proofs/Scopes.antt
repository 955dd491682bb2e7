-- What stands in a scope, and what a target adds to it.
use Rattle.grin_syntax.specs.declared.program.Target.TheVariants as to
use Rattle.grin_syntax.specs.Formed.{InScope, Scope, with_word_variables, with_target}
use Rattle.std.proofs.Common.{[], List, arith, refl, suc, zero, ℕ, ◌<◌, ◌≡◌, ◌≤◌, ◌++◌, ◌+◌, Bool, cond, false, true, ◌∷◌}
use Rattle.seq.specs.Lists.{times, is_among}
use Rattle.grin_syntax.specs.declared.program.Target.{Target}
use Rattle.grin_syntax.specs.Binders.{numbers_of, target_vars}
use Rattle.seq.proofs.Counted.{times_append}
use Rattle.std.specs.Prelude.{nat_eq, ◌||◌}

pub scope_below : (p : ℕ) (xs : List ℕ) → ((y : ℕ) → p ≤ y → times y xs ≡ 0) → (y : ℕ)
    → InScope xs y → y < p
scope_below p xs f y i = go (times y xs) refl (f y)
  where
    go : (m : ℕ) → times y xs ≡ m → (p ≤ y → times y xs ≡ 0) → y < p
    go zero q k = absurd (omega (arith, q, i))
    go (suc m) q k = less (λ l. omega (arith, q, k l))
      where
        less : (p ≤ y → ⊥) → y < p
        less n = omega (arith, n)

pub scope_left : (xs ys : List ℕ) (y : ℕ) → InScope xs y → InScope (xs ++ ys) y
scope_left xs ys y i = let e : times y (xs ++ ys) ≡ times y xs + times y ys = times_append y xs ys
    in omega (arith, e, i)

pub scope_right : (xs ys : List ℕ) (y : ℕ) → InScope ys y → InScope (xs ++ ys) y
scope_right xs ys y i = let e : times y (xs ++ ys) ≡ times y xs + times y ys = times_append y xs ys
    in omega (arith, e, i)

-- no variable stands in the scope and in the list, or twice in the list
abbrev pub Once : Scope → List ℕ → Type 0
Once scope xs = (y : ℕ) → times y scope.nodes + times y scope.words + times y xs ≤ 1

pub once_left : (scope : Scope) (xs ys : List ℕ) → Once scope (xs ++ ys) → Once scope xs
once_left scope xs ys once y = let o : times y scope.nodes + times y scope.words + times y
    (xs ++ ys) ≤ 1 = once y in let e : times y (xs ++ ys) ≡ times y xs + times y ys
    = times_append y xs ys in omega (arith, o, e)

pub once_words : (scope : Scope) (xs bs : List ℕ) → Once scope (xs ++ bs)
    → Once (with_word_variables xs scope) bs
once_words scope xs bs once y =
    let e : times y (xs ++ bs) ≡ times y xs + times y bs = times_append y xs bs in
    let f : times y (xs ++ scope.words) ≡ times y xs + times y scope.words
    = times_append y xs scope.words in
    let o : times y scope.nodes + times y scope.words + times y (xs ++ bs) ≤ 1 = once y in
    omega arith

pub target_adds : (t : Target) (scope : Scope) (y : ℕ)
    → times y (with_target t scope).nodes + times y (with_target t scope).words ≡ times y
    (target_vars t) + (times y scope.nodes + times y scope.words)
target_adds to.Nothing scope y = omega arith
target_adds (to.Node x) scope y = omega arith
target_adds (to.One x) scope y = omega arith
target_adds (to.Vector xs) scope y = let e : times y (numbers_of xs ++ scope.words) ≡ times y
    (numbers_of xs) + times y scope.words = times_append y (numbers_of xs) scope.words
    in omega (arith, e)

pub among_in : (x : ℕ) (xs : List ℕ) → InScope xs x → is_among x xs ≡ true
among_in x [] h = absurd (omega (arith, h))
among_in x (y ∷ ys) h = by (nat_eq x y) (among_in x ys) h
  where
    by : (b : Bool) → (InScope ys x → is_among x ys ≡ true) → 0 < cond b 1 0 + times x ys
        → (b || is_among x ys) ≡ true
    by true r k = refl
    by false r k = r (omega (arith, k))
