-- What the definitions say by themselves.
use Rattle.std.specs.Prelude.{◌≡◌, ℕ, ◌↔◌, List, ◌∷◌, ◌++◌, Some}
use Rattle.command_line.specs.Parts.{OptionOrOperand, Setting, parts_of}
use Rattle.command_line.specs.Grammar.{WordsSayParts}
use Rattle.command_line.specs.Commands.{command_from}

-- Words stand for the parts that they say, so at most for one list of parts.
abbrev pub ParsingMatchesGrammar : Type 0
ParsingMatchesGrammar =
    (words : List (List ℕ)) (parts : List OptionOrOperand)
    → (parts_of words ≡ Some parts) ↔ WordsSayParts words parts

-- An option and its neighbour may change places, so options stand anywhere among the operands.
abbrev pub OptionOrderIsFree : Type 0
OptionOrderIsFree =
    (name : List ℕ) (front : List OptionOrOperand) (option value : List ℕ)
    (part : OptionOrOperand) (back : List OptionOrOperand)
    → command_from name (front ++ (Setting option value ∷ part ∷ back))
    ≡ command_from name (front ++ (part ∷ Setting option value ∷ back))
