-- Selected items do what low code does.
use Rattle.std.specs.Prelude.{ℕ, List}
use Rattle.low_code.specs.Tree.{Program}
use Rattle.low_code.specs.Run.{NeverMissing}
use Rattle.register_alloc.specs.Assignment.{Assignment}
use Rattle.rv32_items.specs.declared.Item.{Item}
use Rattle.rv32_select.specs.IsSelected.{IsSelected}
use Rattle.rv32_select.specs.Selectable.{Selectable}
use Rattle.rv32_select.specs.Selects.{Selects}

-- items that are selected for low code that is never missing do what it does
abbrev pub SelectionRefines : Type 0
SelectionRefines =
    (l : Program) (a : Assignment) (cells stack : ℕ) (items : List Item)
    → Selectable l a cells stack → NeverMissing l → IsSelected l a cells stack items
    → Selects l a cells stack items
