-- What the words behind a command say, as a grammar.
use Rattle.std.specs.Prelude.{◌≡◌, ◌≢◌, ℕ, Bool, true, false, not, List, [], ◌∷◌, ◌++◌, map, codes}
use Rattle.std.specs.List.{list_any}
use Rattle.command_line.specs.Parts.{OptionOrOperand, Setting, Operand, is_dash, is_equals, is_flag, begins_with_dash}

-- A word that begins with `-` and goes on is no operand, unless a `--` came earlier.
abbrev pub is_operand : List ℕ → Bool
is_operand [] = true
is_operand (b ∷ []) = true
is_operand (b ∷ c ∷ bs) = not (is_dash b)

-- a name has no `=`
abbrev pub IsOptionName : List ℕ → Type 0
IsOptionName name = list_any is_equals name ≡ false

-- The words say these parts, in this order.
pub data WordsSayParts : List (List ℕ) → List OptionOrOperand → Type 0 where
  Nothing : WordsSayParts [] []
  AnOperand : {words : List (List ℕ)} {parts : List OptionOrOperand} (text : List ℕ)
      → is_operand text ≡ true
      → WordsSayParts words parts → WordsSayParts (text ∷ words) (Operand text ∷ parts)
  -- an option in one word, `--name=value`
  OneWord : {words : List (List ℕ)} {parts : List OptionOrOperand} (name value : List ℕ)
      → IsOptionName name → is_flag name ≡ false → WordsSayParts words parts
      → WordsSayParts ((codes "--" ++ (name ++ (codes "=" ++ value))) ∷ words)
      (Setting name value ∷ parts)
  -- an option in two words, `--name value`
  TwoWords : {words : List (List ℕ)} {parts : List OptionOrOperand} (name value : List ℕ)
      → name ≢ []
      → IsOptionName name → is_flag name ≡ false → begins_with_dash value ≡ false
      → WordsSayParts words parts
      → WordsSayParts ((codes "--" ++ name) ∷ value ∷ words) (Setting name value ∷ parts)
  -- an option that takes no value, `--name`
  Alone : {words : List (List ℕ)} {parts : List OptionOrOperand} (name : List ℕ)
      → is_flag name ≡ true
      → WordsSayParts words parts
      → WordsSayParts ((codes "--" ++ name) ∷ words) (Setting name [] ∷ parts)
  -- behind `--` all words are operands
  Operands : (words : List (List ℕ)) → WordsSayParts (codes "--" ∷ words) (map Operand words)
