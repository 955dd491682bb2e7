-- A case of many alternatives, each tested for in turn.
use Rattle.std.specs.Prelude.{ℕ, pos, List, [], ◌∷◌, ◌++◌}
use Rattle.rv32_isa.specs.declared.instr.Instr.TheVariants.{OpImm, Ecall}
use Rattle.rv32_isa.specs.declared.instr.ImmKind.TheVariants.{Addi}
use Rattle.rv32_items.specs.declared.Cond.TheVariants.{Ne, Geu}
use Rattle.rv32_items.specs.declared.Item.{Item}
use Rattle.rv32_items.specs.declared.Item.TheVariants.{Label, Plain, Branch, Jump}
use Rattle.test_layout.specs.Pieces.{pieces}

-- register r gets the number k
abbrev pub number : (r k : ℕ) → Item
number r k = Plain (OpImm Addi r 0 (pos k))

-- where x5 is k, x10 gets k and the case is over; label k stands after it
abbrev pub alternative : (over k : ℕ) → List Item
alternative over k = number 6 k ∷ Branch Ne 5 6 k ∷ number 10 k ∷ Jump 0 over ∷ Label k ∷ []

-- the alternatives below n
abbrev pub alternatives : (over n : ℕ) → List Item
alternatives over n = pieces (alternative over) n

-- x5 gets the value; one without an alternative goes over all of them. Then the program exits with
-- x10
abbrev pub first_items : (count value : ℕ) → List Item
first_items count value = number 5 value ∷ number 6 count ∷ Branch Geu 5 6 count ∷ []

abbrev pub last_items : (count : ℕ) → List Item
last_items count = Label count ∷ number 17 93 ∷ Plain Ecall ∷ []

abbrev pub chosen : (count value : ℕ) → List Item
chosen count value = first_items count value ++ (alternatives count count ++ last_items count)
