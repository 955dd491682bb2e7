-- What the words behind a command say: options with their values, and operands.
use Rattle.std.specs.Prelude.{ℕ, ◌==◌, Bool, true, false, nat_lt, List, [], ◌∷◌, length, map, codes, Option, Some, None, if◌then◌else◌}
use Rattle.std.specs.List.{position_or_len, before_first, after_first}
use Rattle.std.specs.Option.{option_map}
use Rattle.std.specs.Str.{bytes_eq}

-- an option with its value, which is empty where it takes none, or an operand
pub data OptionOrOperand : Type 0 where
  Setting : (name value : List ℕ) → OptionOrOperand
  Operand : (text : List ℕ) → OptionOrOperand

-- what a word is while no `--` stands before it
pub data WordKind : Type 0 where
  -- an operand
  Plain : (text : List ℕ) → WordKind
  -- `--name=value`
  Joined : (name value : List ℕ) → WordKind
  -- `--name`, of an option that takes no value
  Flag : (name : List ℕ) → WordKind
  -- `--name`, whose value is the next word
  Named : (name : List ℕ) → WordKind
  -- `--`, behind which every word is an operand
  End : WordKind
  -- a dash with more behind it, which no command has
  Unknown : WordKind

-- the byte `-`
abbrev pub is_dash : ℕ → Bool
is_dash b = b == 45

-- the byte `=`
abbrev pub is_equals : ℕ → Bool
is_equals b = b == 61

-- a text begins with `-`
abbrev pub begins_with_dash : List ℕ → Bool
begins_with_dash [] = false
begins_with_dash (b ∷ bs) = is_dash b

-- the options that take no value
abbrev pub is_flag : List ℕ → Bool
is_flag name = bytes_eq name (codes "stats")

-- an option with a value in the same word
abbrev pub joined : (name value : List ℕ) → WordKind
joined name value = if is_flag name then Unknown else Joined name value

-- an option without one in its word
abbrev pub named : (name : List ℕ) → WordKind
named name = if is_flag name then Flag name else Named name

-- the word that is two dashes and then this text; a name ends at the first `=`
abbrev pub option_of : List ℕ → WordKind
option_of [] = End
option_of (b ∷ bs) =
    if nat_lt (position_or_len is_equals (b ∷ bs)) (length (b ∷ bs))
    then joined (before_first is_equals (b ∷ bs)) (after_first is_equals (b ∷ bs))
    else named (b ∷ bs)

-- what a word is
abbrev pub word_of : List ℕ → WordKind
word_of [] = Plain []
word_of (b ∷ []) = Plain (b ∷ [])
word_of (b ∷ c ∷ bs) =
    if is_dash b then (if is_dash c then option_of bs else Unknown) else Plain (b ∷ c ∷ bs)

-- the parts with one more before them
abbrev pub with_part : OptionOrOperand → Option (List OptionOrOperand)
    → Option (List OptionOrOperand)
with_part part parts = option_map (λ rest. part ∷ rest) parts

abbrev mutual
  -- the parts that words stand for, if they stand for any
  pub parts_of : List (List ℕ) → Option (List OptionOrOperand)
  parts_of [] = Some []
  parts_of (text ∷ words) = elim (word_of text) [
    | Plain operand ↦ with_part (Operand operand) (parts_of words)
    | Joined name value ↦ with_part (Setting name value) (parts_of words)
    | Flag name ↦ with_part (Setting name []) (parts_of words)
    | Named name ↦ parts_from_value name words
    | End ↦ Some (map Operand words)
    | Unknown ↦ None
  ]

  -- the same where the first word is the value of an option
  pub parts_from_value : (name : List ℕ) → List (List ℕ) → Option (List OptionOrOperand)
  parts_from_value name [] = None
  parts_from_value name (value ∷ words) = elim (begins_with_dash value) [
    | true ↦ None
    | false ↦ with_part (Setting name value) (parts_of words)
  ]
