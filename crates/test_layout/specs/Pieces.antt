-- Pieces of items, one after another.
use Rattle.std.specs.Prelude.{ℕ, zero, suc, List, [], ◌++◌}
use Rattle.rv32_items.specs.declared.Item.{Item}

-- the pieces below n
abbrev pub pieces : (ℕ → List Item) → (n : ℕ) → List Item
pieces piece zero = []
pieces piece (suc n) = pieces piece n ++ piece n
