-- How often labels stand in items, and how large the items are.
use Rattle.std.specs.Prelude.{if◌then◌else◌}
use Rattle.std.proofs.Common.{[], Bool, arith, false, suc, true, ℕ, ◌+◌, ◌≡◌, List, ◌++◌, ◌∷◌}
use Rattle.rv32_items.specs.declared.Item.TheVariants.{Branch, Jump, Label, Plain}
use Rattle.rv32_items.specs.declared.Item.{Item}
use Rattle.std.specs.Prelude.{nat_eq}
use Rattle.rv32_items.specs.Placed.{times, size_of}

pub counted_one : (b : Bool) (n p q : ℕ) → n ≡ p + q
    → (if b then suc n else n) ≡ (if b then suc p else p) + q
counted_one true n p q e = omega arith
counted_one false n p q e = e

pub times_append : (l : ℕ) (xs ys : List Item) → times l (xs ++ ys) ≡ times l xs + times l ys
times_append l [] ys = omega arith
times_append l (Label k ∷ xs) ys = counted_one (nat_eq k l) _ _ _ (times_append l xs ys)
times_append l (Plain i ∷ xs) ys = times_append l xs ys
times_append l (Branch c a b k ∷ xs) ys = times_append l xs ys
times_append l (Jump r k ∷ xs) ys = times_append l xs ys

pub size_append : (xs ys : List Item) → size_of (xs ++ ys) ≡ size_of xs + size_of ys
size_append [] ys = omega arith
size_append (x ∷ xs) ys = let e = size_append xs ys in omega arith
