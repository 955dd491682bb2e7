-- The words of `link`.
use Rattle.std.proofs.Common.{◌≡◌, ℕ, Bool, true, false, List, [], ◌∷◌, ◌++◌, map, codes, Option, Some, None, if◌then◌else◌, refl, sym, ap, ◌∙◌, append_assoc, append-nil}
use Rattle.std.specs.Option.{option_map, option_and_then}
use Rattle.std.specs.Str.{bytes_eq}
use Rattle.command_line.specs.Parts.{OptionOrOperand, Setting, Operand, WordKind, Plain, Joined, Flag, Named, End, Unknown, begins_with_dash, word_of, with_part, parts_of, parts_from_value}
use Rattle.command_line.specs.Commands.{operands, takes_only, operands_alone, command_from}
use Rattle.command_line.specs.Walk.{no_options, gathered, chosen}
use Rattle.command_line.proofs.Walks.{parts_from}
use Rattle.command_line.proofs.Said.{IsWord, ItsOperand, word_is}
use Rattle.command_line.proofs.Table.{chosen_from_parts}

-- ---- by the name

pub other_command : (name : List ℕ) (parts : Option (List OptionOrOperand))
    → bytes_eq name (codes "link") ≡ false
    → option_and_then (chosen name) (option_and_then (gathered no_options) parts) ≡ option_and_then
    (command_from name) parts
other_command name None other = refl
other_command name (Some parts) other = rw other (chosen_from_parts name (Some parts))

-- ---- operands alone

one_operand : (text : List ℕ) (o : Option (List OptionOrOperand))
    → option_and_then operands_alone (with_part (Operand text) o) ≡ option_map
    (λ texts. text ∷ texts) (option_and_then operands_alone o)
one_operand text None = refl
one_operand text (Some parts) = by_options (takes_only [] parts) where
  by_options : (b : Bool) → (if b then Some (text ∷ operands parts) else None) ≡ option_map
      (λ texts. text ∷ texts) (if b then Some (operands parts) else None)
  by_options true = refl
  by_options false = refl

no_setting : (name value : List ℕ) (o : Option (List OptionOrOperand))
    → option_and_then operands_alone (with_part (Setting name value) o) ≡ None
no_setting name value None = refl
no_setting name value (Some parts) = refl

no_value : (name : List ℕ) (words : List (List ℕ)) → option_and_then operands_alone
    (parts_from_value name words) ≡ None
no_value name [] = refl
no_value name (value ∷ words) = elim (begins_with_dash value) as
    (λ b. option_and_then operands_alone
    (elim b [ true ↦ None | false ↦ with_part (Setting name value) (parts_of words) ]) ≡ None) [
      | true ↦ refl
      | false ↦ no_setting name value (parts_of words)
    ]

all_alone : (words : List (List ℕ)) → operands_alone (map Operand words) ≡ Some words
all_alone [] = refl
all_alone (text ∷ words) = one_operand text (Some (map Operand words)) ∙ ap
    (option_map (λ texts. text ∷ texts)) (all_alone words)

-- ---- the walk over the words

-- the files that are named once these words have followed
abbrev pub files_from : (front words : List (List ℕ)) → Option (List (List ℕ))
files_from front [] = Some front
files_from front (text ∷ words) = elim (word_of text) [
  | Plain operand ↦ files_from (front ++ (text ∷ [])) words
  | Joined name value ↦ None
  | Flag name ↦ None
  | Named name ↦ None
  | End ↦ Some (front ++ words)
  | Unknown ↦ None
]

plain_text : (text operand : List ℕ) → IsWord text (Plain operand) → text ≡ operand
plain_text _ _ (ItsOperand text is) = refl

in_front : (front : List (List ℕ)) (text : List ℕ) (o : Option (List (List ℕ)))
    → option_map (λ texts. (front ++ (text ∷ [])) ++ texts) o ≡ option_map (λ texts. front ++ texts)
    (option_map (λ texts. text ∷ texts) o)
in_front front text None = refl
in_front front text (Some texts) = ap Some (append_assoc front (text ∷ []) texts)

pub files_are : (words front : List (List ℕ))
    → files_from front words ≡ option_map (λ texts. front ++ texts)
    (option_and_then operands_alone (parts_of words))
files_are [] front = ap Some (sym (append-nil front))
files_are (text ∷ words) front = by_word (word_of text) (word_is text)
    (λ more. files_are words more) where
      by_word : (word : WordKind) → IsWord text word
          → ((more : List (List ℕ)) → files_from more words ≡ option_map (λ texts. more ++ texts)
          (option_and_then operands_alone (parts_of words)))
          → elim word [
            | Plain operand ↦ files_from (front ++ (text ∷ [])) words
            | Joined name value ↦ None
            | Flag name ↦ None
            | Named name ↦ None
            | End ↦ Some (front ++ words)
            | Unknown ↦ None
          ] ≡ option_map (λ texts. front ++ texts)
          (option_and_then operands_alone (parts_from word words))
      by_word (Plain operand) is rest =
          let same : text ≡ operand = plain_text text operand is in
          rest (front ++ (text ∷ []))
          ∙ in_front front text (option_and_then operands_alone (parts_of words))
          ∙ ap (option_map (λ texts. front ++ texts)) (sym (one_operand text (parts_of words)))
          ∙ ap (λ t. option_map (λ texts. front ++ texts)
          (option_and_then operands_alone (with_part (Operand t) (parts_of words)))) same
      by_word (Joined name value) is rest = ap (option_map (λ texts. front ++ texts))
          (sym (no_setting name value (parts_of words)))
      by_word (Flag name) is rest = ap (option_map (λ texts. front ++ texts))
          (sym (no_setting name [] (parts_of words)))
      by_word (Named name) is rest = ap (option_map (λ texts. front ++ texts))
          (sym (no_value name words))
      by_word End is rest = ap (option_map (λ texts. front ++ texts)) (sym (all_alone words))
      by_word Unknown is rest = refl

same_map : (o : Option (List (List ℕ))) → option_map (λ texts. [] ++ texts) o ≡ o
same_map None = refl
same_map (Some texts) = refl

-- a walk from the start
pub files_of_words : (words : List (List ℕ)) → files_from [] words ≡ option_and_then operands_alone
    (parts_of words)
files_of_words words = files_are words [] ∙ same_map
    (option_and_then operands_alone (parts_of words))

-- ---- an option among the words

-- an option in any place
pub not_alone : (front : List OptionOrOperand) (name value : List ℕ) (back : List OptionOrOperand)
    → takes_only [] (front ++ (Setting name value ∷ back)) ≡ false
not_alone [] name value back = refl
not_alone (Operand text ∷ front) name value back = not_alone front name value back
not_alone (Setting name' value' ∷ front) name value back = refl

-- or one part later
pub not_alone_later : (front : List OptionOrOperand) (part : OptionOrOperand) (name value : List ℕ)
    (back : List OptionOrOperand) → takes_only [] (front ++ (part ∷ Setting name value ∷ back)) ≡
    false
not_alone_later front part name value back =
    ap (takes_only []) (sym (append_assoc front (part ∷ []) (Setting name value ∷ back))) ∙
    not_alone (front ++ (part ∷ [])) name value back
