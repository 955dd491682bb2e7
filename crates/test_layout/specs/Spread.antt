-- An item between two labels, far from either.
use Rattle.std.specs.Prelude.{◌≡◌, ◌⊎◌, ℕ, pos, List, [], ◌∷◌, ◌++◌, replicate, Some}
use Rattle.rv32_isa.specs.declared.instr.Instr.TheVariants.{OpImm}
use Rattle.rv32_isa.specs.declared.instr.ImmKind.TheVariants.{Addi}
use Rattle.rv32_items.specs.declared.Item.{Item}
use Rattle.rv32_items.specs.declared.Item.TheVariants.{Label, Plain}
use Rattle.rv32_items.specs.Placed.{target_of}

-- an instruction that does nothing
abbrev pub idle : Item
idle = Plain (OpImm Addi 0 0 (pos 0))

-- label 0, so many idle instructions, the item, so many again, and a last label
abbrev pub spread : (before after last : ℕ) → Item → List Item
spread before after last i =
    (Label 0 ∷ replicate before idle) ++ (i ∷ (replicate after idle ++ Label last ∷ []))

-- the item goes to one of the two labels
abbrev pub GoesThere : (last : ℕ) → Item → Type 0
GoesThere last i = (target_of i ≡ Some 0) ⊎ (target_of i ≡ Some last)
