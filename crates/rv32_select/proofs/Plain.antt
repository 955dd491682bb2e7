-- Plain items of instructions.
use Rattle.std.proofs.Common.{◌≡◌, List, [], ◌∷◌, ◌++◌, refl, ap}
use Rattle.rv32_isa.specs.declared.instr.Instr.{Instr}
use Rattle.rv32_items.specs.declared.Item.TheVariants.{Plain}
use Rattle.rv32_select.specs.Emit.{plain}

pub plain_append : (a b : List Instr) → plain (a ++ b) ≡ plain a ++ plain b
plain_append [] b = refl
plain_append (i ∷ a) b = ap (λ is. Plain i ∷ is) (plain_append a b)
