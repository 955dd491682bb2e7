-- Parts are gathered in any order.
use Rattle.std.proofs.Common.{◌≡◌, ℕ, Bool, true, false, codes, List, [], ◌∷◌, ◌++◌, Option, Some, None, refl, sym, ap, ◌∙◌}
use Rattle.std.specs.Option.{option_map, option_and_then}
use Rattle.std.specs.Str.{bytes_eq}
use Rattle.command_line.specs.Parts.{OptionOrOperand, Setting, Operand}
use Rattle.command_line.specs.Commands.{command_from}
use Rattle.command_line.specs.Laws.{OptionOrderIsFree}
use Rattle.command_line.specs.Walk.{Entry, Said, no_options, with_value, with_part, gathered, chosen}
use Rattle.command_line.proofs.Entries.{exchange}
use Rattle.command_line.proofs.Table.{chosen_from}
use Rattle.command_line.proofs.Links.{not_alone, not_alone_later}
use Rattle.command_line.proofs.Gathering.{said_by}

-- with one part and then another
abbrev both : Said → OptionOrOperand → OptionOrOperand → Option Said
both s a b = option_and_then (λ t. with_part t b) (with_part s a)

abbrev Commute : Said → OptionOrOperand → OptionOrOperand → Type 0
Commute s a b = both s a b ≡ both s b a

two_operands : (held : Option (List ℕ)) (entries : List Entry) (x y : List ℕ)
    → Commute (said_by held entries) (Operand x) (Operand y)
two_operands None entries x y = refl
two_operands (Some old) entries x y = refl

-- an operand before or behind new entries
operand_then : (held : Option (List ℕ)) (entries : List Entry) (text name value : List ℕ)
    (o : Option (List Entry)) → with_value entries name value ≡ o
    → Commute (said_by held entries) (Operand text) (Setting name value)
operand_then None entries text name value None is = rw is refl
operand_then None entries text name value (Some new) is = rw is refl
operand_then (Some old) entries text name value None is = rw is refl
operand_then (Some old) entries text name value (Some new) is = rw is refl

-- two settings touch the entries alone
both_settings : (held : Option (List ℕ)) (o : Option (List Entry)) (name value : List ℕ)
    → option_and_then (λ t. with_part t (Setting name value)) (option_map (said_by held) o)
    ≡ option_map (said_by held) (option_and_then (λ new. with_value new name value) o)
both_settings held None name value = refl
both_settings held (Some new) name value = refl

two_settings : (held : Option (List ℕ)) (entries : List Entry) (name value name' value' : List ℕ)
    → Commute (said_by held entries) (Setting name value) (Setting name' value')
two_settings held entries name value name' value' =
    both_settings held (with_value entries name value) name' value'
    ∙ (ap (option_map (said_by held)) (exchange entries name value name' value')
    ∙ sym (both_settings held (with_value entries name' value') name value))

commute : (s : Said) (a b : OptionOrOperand) → Commute s a b
commute s (Operand x) (Operand y) = two_operands s.operand s.entries x y
commute s (Operand x) (Setting name value) = operand_then s.operand s.entries x name value
    (with_value s.entries name value) refl
commute s (Setting name value) (Operand x) = sym
    (operand_then s.operand s.entries x name value (with_value s.entries name value) refl)
commute s (Setting name value) (Setting name' value')
    = two_settings s.operand s.entries name value name' value'

gathered_both : (s : Said) (a b : OptionOrOperand) (back : List OptionOrOperand)
    → gathered s (a ∷ b ∷ back) ≡ option_and_then (λ t. gathered t back) (both s a b)
gathered_both s a b back = by_part (with_part s a) where
  by_part : (o : Option Said) → option_and_then (λ t. gathered t (b ∷ back)) o ≡ option_and_then
      (λ t. gathered t back) (option_and_then (λ t. with_part t b) o)
  by_part None = refl
  by_part (Some t) = refl

gathered_exchanged : (front : List OptionOrOperand) (s : Said) (a b : OptionOrOperand)
    (back : List OptionOrOperand) → gathered s (front ++ (a ∷ b ∷ back)) ≡ gathered s
    (front ++ (b ∷ a ∷ back))
gathered_exchanged [] s a b back = gathered_both s a b back ∙
    (ap (option_and_then (λ t. gathered t back)) (commute s a b) ∙ sym (gathered_both s b a back))
gathered_exchanged (part ∷ front) s a b back = elim (with_part s part) as
    (λ o. option_and_then (λ t. gathered t (front ++ (a ∷ b ∷ back))) o ≡ option_and_then
    (λ t. gathered t (front ++ (b ∷ a ∷ back))) o) [
      | None ↦ refl
      | Some t ↦ gathered_exchanged front t a b back
    ]

pub order_is_free : OptionOrderIsFree
order_is_free name front option value part back = by_name (bytes_eq name (codes "link")) refl where
  by_name : (link : Bool) → bytes_eq name (codes "link") ≡ link
      → command_from name (front ++ (Setting option value ∷ part ∷ back)) ≡ command_from name
      (front ++ (part ∷ Setting option value ∷ back))
  by_name true is =
      rw (
        is,
        not_alone front option value (part ∷ back),
        not_alone_later front part option value back,
      ) refl
  by_name false other =
      rw other
      (sym (chosen_from name (front ++ (Setting option value ∷ part ∷ back)))
      ∙ (ap (option_and_then (chosen name))
      (gathered_exchanged front no_options (Setting option value) part back) ∙ chosen_from name
      (front ++ (part ∷ Setting option value ∷ back))))
