-- The walk over the words gathers the parts that they stand for.
use Rattle.std.proofs.Common.{◌≡◌, ℕ, Bool, true, false, List, [], ◌∷◌, map, Option, Some, None, if◌then◌else◌, refl, sym, ◌∙◌}
use Rattle.std.specs.Option.{option_map, option_and_then}
use Rattle.command_line.specs.Parts as parts
use Rattle.command_line.specs.Parts.{OptionOrOperand, Setting, Operand, WordKind, Plain, Joined, Flag, Named, End, Unknown, begins_with_dash, word_of, parts_of, parts_from_value}
use Rattle.command_line.specs.Walk.{Said, with_setting, with_part, gathered, Next, Any, Value, Rest, Place, before, begun, walked}

-- what is said at the end of a line
abbrev pub ended : Place → Option Said
ended p = elim p.next [ Any ↦ Some p.arguments | Value name ↦ None | Rest ↦ Some p.arguments ]

-- what is said once these words have followed
abbrev pub finished : Place → List (List ℕ) → Option Said
finished p [] = ended p
finished p (text ∷ words) = option_and_then (λ q. finished q words) (walked p text)

-- a part and what stands behind it
gathered_after : (s : Said) (part : OptionOrOperand) (rest : Option (List OptionOrOperand))
    → option_and_then (gathered s) (parts.with_part part rest) ≡ option_and_then
    (λ t. option_and_then (gathered t) rest) (with_part s part)
gathered_after s part (Some rest) = refl
gathered_after s part None = by_part (with_part s part) where
  by_part : (o : Option Said) → option_and_then (gathered s) None ≡ option_and_then
      (λ t. option_and_then (gathered t) None) o
  by_part (Some t) = refl
  by_part None = refl

-- a walk that takes a part with one word
walk_after : (s : Said) (part : OptionOrOperand) (next : Next) (words : List (List ℕ))
    (rest : Option (List OptionOrOperand))
    → ((t : Said) → finished (before next t) words ≡ option_and_then (gathered t) rest)
    → option_and_then (λ q. finished q words) (option_map (before next) (with_part s part)) ≡
    option_and_then (gathered s) (parts.with_part part rest)
walk_after s part next words rest later = by_part (with_part s part) ∙ sym
    (gathered_after s part rest) where
      by_part : (o : Option Said) → option_and_then (λ q. finished q words)
          (option_map (before next) o)
          ≡ option_and_then (λ t. option_and_then (gathered t) rest) o
      by_part (Some t) = later t
      by_part None = refl

-- one that takes the value of an option
walk_after_value : (dash : Bool) (s : Said) (name value : List ℕ) (words : List (List ℕ))
    (rest : Option (List OptionOrOperand))
    → ((t : Said) → finished (before Any t) words ≡ option_and_then (gathered t) rest)
    → option_and_then (λ q. finished q words)
    (if dash then None else option_map (before Any) (with_setting s name value))
    ≡ option_and_then (gathered s)
    (elim dash [ true ↦ None | false ↦ parts.with_part (Setting name value) rest ])
walk_after_value true s name value words rest later = refl
walk_after_value false s name value words rest later
    = walk_after s (Setting name value) Any words rest later

-- behind `--`
rest_gathers : (words : List (List ℕ)) (s : Said) → finished (before Rest s) words ≡ gathered s
    (map Operand words)
rest_gathers [] s = refl
rest_gathers (text ∷ words) s = walk_after s (Operand text) Rest words (Some (map Operand words))
    (λ t. rest_gathers words t)

-- the parts that begin with a word
abbrev pub parts_from : WordKind → List (List ℕ) → Option (List OptionOrOperand)
parts_from w words = elim w [
  | Plain operand ↦ parts.with_part (Operand operand) (parts_of words)
  | Joined name value ↦ parts.with_part (Setting name value) (parts_of words)
  | Flag name ↦ parts.with_part (Setting name []) (parts_of words)
  | Named name ↦ parts_from_value name words
  | End ↦ Some (map Operand words)
  | Unknown ↦ None
]

mutual
  pub walk_gathers : (words : List (List ℕ)) (s : Said)
      → finished (before Any s) words ≡ option_and_then (gathered s) (parts_of words)
  walk_gathers [] s = refl
  walk_gathers (text ∷ words) s = elim (word_of text) as
      (λ w. option_and_then (λ q. finished q words) (begun s w) ≡ option_and_then (gathered s)
      (parts_from w words)) [
        | Plain operand ↦ walk_after s (Operand operand) Any words (parts_of words)
            (λ t. walk_gathers words t)
        | Joined name value ↦ walk_after s (Setting name value) Any words (parts_of words)
            (λ t. walk_gathers words t)
        | Flag name ↦ walk_after s (Setting name []) Any words (parts_of words)
            (λ t. walk_gathers words t)
        | Named name ↦ value_gathers words name s
        | End ↦ rest_gathers words s
        | Unknown ↦ refl
      ]

  value_gathers : (words : List (List ℕ)) (name : List ℕ) (s : Said)
      → finished (before (Value name) s) words ≡ option_and_then (gathered s)
      (parts_from_value name words)
  value_gathers [] name s = refl
  value_gathers (value ∷ words) name s =
      walk_after_value (begins_with_dash value) s name value words (parts_of words)
      (λ t. walk_gathers words t)
