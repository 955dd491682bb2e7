-- What is in scope where more is bound.
use Rattle.std.proofs.Common.{◌≡◌, ℕ, ◌<◌, List, [], ◌∷◌, ◌++◌, map, sym, ap, subst, arith}
use mathlib.Core.Logic.{◌⊎◌, inl, inr}
use Rattle.arity_check.specs.declared.normal.Bound.{Bound}
use Rattle.arity_check.specs.Program.{Program}
use Rattle.grin_syntax.specs.Binders.{numbers_of, cell_vars}
use Rattle.grin_syntax.specs.Formed.{InScope}
use Rattle.grin_syntax.proofs.Scopes.{first_in}
use Rattle.grin_translate.specs.Blocks.{local, cell_of}
use Rattle.grin_translate.specs.WellFormed.{InLocals, InGroup}
use Rattle.grin_translate.proofs.Places.{Has, has_number_from}
use Rattle.seq.specs.Lists.{numbers_from}

pub in_this : (x y : ℕ) (scope : List ℕ) → x ≡ y → InScope (y ∷ scope) x
in_this x y scope e = subst (InScope (y ∷ scope)) (sym e) (first_in y scope)

pub in_later : (x y : ℕ) (scope : List ℕ) → InScope scope x → InScope (y ∷ scope) x
in_later x y scope h = omega (arith, h)

pub in_right : (x : ℕ) (ys scope : List ℕ) → InScope scope x → InScope (ys ++ scope) x
in_right x [] scope h = h
in_right x (y ∷ ys) scope h = in_later x y (ys ++ scope) (in_right x ys scope h)

module _ (p : Program) (base : ℕ) where
  -- the variables of these locals are among those in scope
  pub record Scoped (S : ℕ → Type 0) (scope : List ℕ) : Type 0 where
    pub each : (x : ℕ) → S x → InScope scope (local p base x).0

  pub scoped_local : {S : ℕ → Type 0} {scope : List ℕ} (y : ℕ) → Scoped S scope
      → Scoped (λ x. S x ⊎ (x ≡ y)) ((local p base y).0 ∷ scope)
  scoped_local {S} {scope} y b = record { each = λ x h. by_case x h }
    where
      by_case : (x : ℕ) → S x ⊎ (x ≡ y) → InScope ((local p base y).0 ∷ scope) (local p base x).0
      by_case x (inl s) = in_later (local p base x).0 (local p base y).0 scope (b.each x s)
      by_case x (inr e) = in_this (local p base x).0 (local p base y).0 scope
          (ap (λ z. (local p base z).0) e)

  among_fields : (x : ℕ) (xs scope : List ℕ) → InLocals xs x
      → InScope (numbers_of (map (local p base) xs) ++ scope) (local p base x).0
  among_fields x [] scope h = absurd h
  among_fields x (y ∷ xs) scope (inl e) = in_this (local p base x).0 (local p base y).0 _
      (ap (λ z. (local p base z).0) e)
  among_fields x (y ∷ xs) scope (inr h) = in_later (local p base x).0 (local p base y).0 _
      (among_fields x xs scope h)

  pub scoped_fields : {S : ℕ → Type 0} {scope : List ℕ} (xs : List ℕ) → Scoped S scope
      → Scoped (λ x. S x ⊎ InLocals xs x) (numbers_of (map (local p base) xs) ++ scope)
  scoped_fields {S} {scope} xs b = record { each = λ x h. by_case x h }
    where
      by_case : (x : ℕ) → S x ⊎ InLocals xs x → InScope
          (numbers_of (map (local p base) xs) ++ scope) (local p base x).0
      by_case x (inl s) = in_right (local p base x).0 (numbers_of (map (local p base) xs)) scope
          (b.each x s)
      by_case x (inr h) = among_fields x xs scope h

  among_group : (x : ℕ) (group : List Bound) (scope : List ℕ) → InGroup group x
      → InScope (cell_vars (map (cell_of p base) group) ++ scope) (local p base x).0
  among_group x [] scope h = absurd h
  among_group x (b ∷ group) scope (inl e) = in_this (local p base x).0 (local p base b.local).0 _
      (ap (λ z. (local p base z).0) e)
  among_group x (b ∷ group) scope (inr h) = in_later (local p base x).0 (local p base b.local).0 _
      (among_group x group scope h)

  pub scoped_group : {S : ℕ → Type 0} {scope : List ℕ} (group : List Bound) → Scoped S scope
      → Scoped (λ x. S x ⊎ InGroup group x) (cell_vars (map (cell_of p base) group) ++ scope)
  scoped_group {S} {scope} group b = record { each = λ x h. by_case x h }
    where
      by_case : (x : ℕ) → S x ⊎ InGroup group x → InScope
          (cell_vars (map (cell_of p base) group) ++ scope) (local p base x).0
      by_case x (inl s) = in_right (local p base x).0 (cell_vars (map (cell_of p base) group)) scope
          (b.each x s)
      by_case x (inr h) = among_group x group scope h

  among_params : (x : ℕ) (ns : List ℕ) → Has x ns → InScope (numbers_of (map (local p base) ns))
      (local p base x).0
  among_params x [] h = absurd h
  among_params x (n ∷ ns) (inl e) = in_this (local p base x).0 (local p base n).0 _
      (ap (λ z. (local p base z).0) e)
  among_params x (n ∷ ns) (inr h) = in_later (local p base x).0 (local p base n).0 _
      (among_params x ns h)

  -- the parameters of a procedure
  pub scoped_params : (n : ℕ) → Scoped (λ x. x < n)
      (numbers_of (map (local p base) (numbers_from 0 n)))
  scoped_params n = record {
    each = λ x lt. among_params x (numbers_from 0 n)
        (has_number_from n 0 x (omega arith) (omega (arith, lt)));
  }
