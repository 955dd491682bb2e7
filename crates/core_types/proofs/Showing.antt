-- The variables of types, from the left, and where a variable stands; which types are compound.
use Rattle.std.proofs.Common.{◌≡◌, ℕ, ◌≤◌, Bool, true, false, not, List, [], ◌∷◌, ◌++◌, length, map, refl, arith, None, Some}
use Rattle.std.specs.Prelude.{nat_lt, if◌then◌else◌}
use Rattle.std.specs.List.{position_or_len}
use Rattle.std.proofs.lemmas.Bool.Decides.{nat_tests}
use Rattle.std.proofs.lemmas.List.Sums.{fold-append, prefix_len-le-length}
use Rattle.core_types.specs.declared.sides.Ty.{Ty}
use Rattle.core_types.specs.Typing.{Named}
use Rattle.core_types.specs.Sides.{types_from, type_of}
use Rattle.core_types.specs.Shown.{VariableMark, with_mark_if_new, with_marks, same_mark, is_compound}

pub more_marks : (ms ns os : List VariableMark) → with_marks ms (ns ++ os) ≡ with_marks
    (with_marks ms ns) os
more_marks ms ns os = fold-append with_mark_if_new ms ns os

-- what stands nowhere has the length as its place
pub stands_nowhere : (m : VariableMark) (ms : List VariableMark)
    → None ≡ (if nat_lt (position_or_len (same_mark m) ms) (length ms)
    then Some (position_or_len (same_mark m) ms) else None)
    → length ms ≡ position_or_len (same_mark m) ms
stands_nowhere m ms = go (length ms) (position_or_len (same_mark m) ms)
    (prefix_len-le-length (λ n. not (same_mark m n)) ms)
  where
    by : (n p : ℕ) → p ≤ n → (below : Bool) → nat_lt p n ≡ below
        → None ≡ (if below then Some p else None) → n ≡ p
    by n p l true h e = absurd cc
    by n p l false h e = grind (arith, nat_tests, h)

    go : (n p : ℕ) → p ≤ n → None ≡ (if nat_lt p n then Some p else None) → n ≡ p
    go n p l e = by n p l (nat_lt p n) refl e

pub compound_named : (c : ℕ) (ts : List Ty) (none : Bool) → (none ≡ true → ts ≡ [])
    → (ts ≡ [] → none ≡ true) → not none ≡ is_compound (Named c (types_from (map type_of ts)))
compound_named c [] true f g = refl
compound_named c [] false f g = absurd (let e = g refl in cc)
compound_named c (t ∷ ts) true f g = absurd (let e = f refl in cc)
compound_named c (t ∷ ts) false f g = refl
