-- Words that are placed for items, and the addresses at which labels stand in them.
use Rattle.std.specs.Prelude.{◌≡◌, ℕ, List}
use Rattle.std.specs.List.{range_with_len}
use Rattle.rv32_items.specs.declared.Item.{Item}
use Rattle.rv32_items.specs.Placed.{Placed}
use Rattle.rv32_items.specs.Laws.{addresses_of}
use Rattle.rv32_layout.specs.declared.Placement.{Placement}

-- the words do what the items do, and the labels 0, 1 and so on, so many, stand at these addresses
pub record IsPlacement (items : List Item) (labels : ℕ) (placement : Placement) : Type 0 where
  pub placed : Placed items placement.words.items
  pub addresses : placement.addresses.items
      ≡ addresses_of placed.lay items (range_with_len 0 labels)
