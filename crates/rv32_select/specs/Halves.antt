-- A word that is looked for among numbers by halves.
use Rattle.std.specs.Prelude.{◌≡◌, ℕ, suc, ◌≤◌, ◌<◌, nat_eq, Bool, false, if◌then◌else◌, List, [], ◌∷◌, ◌++◌, Option, Some, None}
use Rattle.rv32_items.specs.declared.Cond.TheVariants.{Geu}
use Rattle.rv32_items.specs.declared.Item.{Item}
use Rattle.rv32_items.specs.declared.Item.TheVariants.{Label}
use Rattle.rv32_select.specs.declared.source.Source.{Source}
use Rattle.rv32_select.specs.Emit.{compare_items, test_items}

-- a number and its block, whose own labels are those from `first` on, below `next`
pub record SearchedArm : Type 0 where
  pub number : ℕ
  pub first : ℕ
  pub next : ℕ
  pub block : List Item

-- below a bound, where there is one
abbrev pub IsBelowBound : ℕ → Option ℕ → Type 0
IsBelowBound n None = Unit {0}
IsBelowBound n (Some high) = n < high

-- the only number from `low` on, below a bound, is `low`
abbrev pub is_alone : (low : ℕ) → Option ℕ → Bool
is_alone low None = false
is_alone low (Some high) = nat_eq (suc low) high

module _ (miss : ℕ) (word : Source) where
  abbrev pub last_test : (low : ℕ) → Option ℕ → (number : ℕ) → List Item
  last_test low high number = if is_alone low high then [] else test_items miss word number

  -- where the word is from `low` on and below a bound: items that lead to the block of its number,
  -- and to the label `miss` where it is none of the numbers; their own labels are those from n on,
  -- below m
  pub data Halves : (low : ℕ) → Option ℕ → List SearchedArm → (n m : ℕ) → List Item → Type 0 where
    one : {low : ℕ} {high : Option ℕ} {all : List SearchedArm} {n m : ℕ} {items : List Item}
        (s : SearchedArm) → all ≡ s ∷ [] → n ≡ s.first → m ≡ s.next
        → low ≤ s.number → IsBelowBound s.number high
        → items ≡ last_test low high s.number ++ s.block → Halves low high all n m items
    two : {low : ℕ} {high : Option ℕ} {all : List SearchedArm} {n m : ℕ} {items : List Item}
        (bound : ℕ) (front back : List SearchedArm) (k : ℕ) (xs ys : List Item)
        → all ≡ front ++ back
        → Halves low (Some bound) front (suc n) k xs → Halves bound high back k m ys
        → items ≡ (compare_items Geu n word bound ++ (xs ++ Label n ∷ [])) ++ ys
        → Halves low high all n m items
