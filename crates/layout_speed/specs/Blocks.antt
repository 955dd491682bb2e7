-- Many blocks of items.
use Rattle.std.specs.Prelude.{ℕ, List, [], ◌∷◌, ◌++◌}
use Rattle.rv32_items.specs.declared.Cond.TheVariants.{Ne}
use Rattle.rv32_items.specs.declared.Item.{Item}
use Rattle.rv32_items.specs.declared.Item.TheVariants.{Label, Branch, Jump}
use Rattle.test_layout.specs.Pieces.{pieces}
use Rattle.test_layout.specs.Spread.{idle}

-- a loop, a branch that goes far, and a call of what stands after all blocks
abbrev pub block : (last k : ℕ) → List Item
block last k =
    Label k ∷ idle ∷ idle ∷ idle ∷ Branch Ne 5 6 k ∷ idle ∷ Branch Ne 5 6 last ∷ Jump 1 last ∷ []

-- the blocks below n
abbrev pub blocks : (last n : ℕ) → List Item
blocks last n = pieces (block last) n

abbrev pub last_block : (count : ℕ) → List Item
last_block count = Label count ∷ idle ∷ []

abbrev pub all_blocks : (count : ℕ) → List Item
all_blocks count = blocks count count ++ last_block count
