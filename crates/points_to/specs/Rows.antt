-- Items in rows of words, one row for each part.
use Rattle.std.specs.Prelude.{◌≡◌, ℕ, ◌⊎◌, List}
use Rattle.std.specs.List.{flat_map}
use Rattle.flow_system.specs.declared.fact.Element.{Element}
use Rattle.points_to.specs.declared.facts.Item.{Item}
use Rattle.points_to.specs.declared.bits.Bits.{Bits}
use Rattle.points_to.specs.declared.items.Row.{Row}
use Rattle.points_to.specs.Bits.{block_numbers, block_words}
use Rattle.points_to.specs.Held.{In, in_part}

-- the numbers in a set
abbrev pub numbers_in : Bits → List ℕ
numbers_in s = flat_map block_numbers s.blocks.items

-- the words whose numbers are in a set
abbrev pub words_in : Bits → List Element
words_in s = flat_map block_words s.blocks.items

-- the words of a row
abbrev pub row_words : Row → List Element
row_words r = words_in r.words

-- the items of a row
abbrev pub row_items : Row → List Item
row_items r = in_part r.part (row_words r)

-- a list gets a member, and no other
pub record GainsMember {X : Type 0} (old new : List X) (x : X) : Type 0 where
  pub kept : (y : X) → In y old → In y new
  pub put : In x new
  pub only : (y : X) → In y new → In y old ⊎ (y ≡ x)

-- a list gets members, and no others
pub record GainsMembers {X : Type 0} (old new xs : List X) : Type 0 where
  pub kept : (y : X) → In y old → In y new
  pub put : (y : X) → In y xs → In y new
  pub only : (y : X) → In y new → In y old ⊎ In y xs

-- the same members
pub record SameMembers {X : Type 0} (xs ys : List X) : Type 0 where
  pub into : (x : X) → In x xs → In x ys
  pub back : (x : X) → In x ys → In x xs
