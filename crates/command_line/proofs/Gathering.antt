-- What is gathered of parts is what the parts say, or else they say too much.
use Rattle.std.proofs.Common.{◌≡◌, ℕ, ◌≤◌, Bool, false, ◌&&◌, List, [], ◌∷◌, ◌++◌, length, Option, Some, None, MatchOption, option_to_list, refl, sym, ap, ◌∙◌, arith, append-nil}
use Rattle.std.specs.List.{list_any}
use Rattle.std.specs.Option.{option_map, option_and_then}
use Rattle.std.specs.Str.{bytes_eq}
use Rattle.std.proofs.lemmas.Bool.Decides.{nat_tests}
use Rattle.command_line.specs.Parts.{OptionOrOperand, Setting, Operand}
use Rattle.command_line.specs.Commands.{operands, values, takes_only}
use Rattle.command_line.specs.Walk.{Entry, Said, with_value, value_of, sets_only, gathered}
use Rattle.command_line.proofs.Entries.{names_of, Added, Barred, NoEntry, HasValue, adds, bytes_eq_self}

-- the parts add these to what is said
pub record Grown (s : Said) (parts : List OptionOrOperand) (t : Said) : Type 0 where
  pub operand : option_to_list t.operand ≡ option_to_list s.operand ++ operands parts
  pub given : (option : List ℕ) → option_to_list (value_of t.entries option) ≡ option_to_list
      (value_of s.entries option) ++ values option parts
  pub sets : (options : List (List ℕ)) → sets_only options t.entries ≡ takes_only options parts &&
      sets_only options s.entries

-- the parts can't be added
pub data Refused (s : Said) (parts : List OptionOrOperand) : Type 0 where
  TwoOperands : 2 ≤ length (option_to_list s.operand ++ operands parts) → Refused s parts
  TwoValues : (option : List ℕ) → 2 ≤ length
      (option_to_list (value_of s.entries option) ++ values option parts) → Refused s parts
  OneUnknown : takes_only (names_of s.entries) parts ≡ false → Refused s parts

-- one of the two
abbrev pub Gathers : Said → List OptionOrOperand → Type 0
Gathers s parts = MatchOption (gathered s parts) (Refused s parts) (Grown s parts)

-- One part moves from the parts to what is said.
record Taken (s t : Said) (part : OptionOrOperand) : Type 0 where
  names : names_of t.entries ≡ names_of s.entries
  operand : (parts : List OptionOrOperand) → option_to_list t.operand
      ++ operands parts ≡ option_to_list s.operand ++ operands (part ∷ parts)
  given : (option : List ℕ) (parts : List OptionOrOperand)
      → option_to_list (value_of t.entries option) ++ values option parts ≡ option_to_list
      (value_of s.entries option) ++ values option (part ∷ parts)
  sets : (options : List (List ℕ)) (parts : List OptionOrOperand)
      → takes_only options parts && sets_only options t.entries ≡ takes_only options (part ∷ parts)
      && sets_only options s.entries

pub and_false : (a : Bool) → a && false ≡ false
and_false a = grind (arith, nat_tests)

still_unknown : (options : List (List ℕ)) (part : OptionOrOperand) (parts : List OptionOrOperand)
    → takes_only options parts ≡ false → takes_only options (part ∷ parts) ≡ false
still_unknown options (Operand text) parts unknown = unknown
still_unknown options (Setting name value) parts unknown
    = rw unknown (and_false (list_any (bytes_eq name) options))

refused_before : (s t : Said) (part : OptionOrOperand) (parts : List OptionOrOperand)
    → Taken s t part → Refused t parts → Refused s (part ∷ parts)
refused_before s t part parts taken (TwoOperands two) = TwoOperands (rw (← taken.operand parts) two)
refused_before s t part parts taken (TwoValues option two)
    = TwoValues option (rw (← taken.given option parts) two)
refused_before s t part parts taken (OneUnknown unknown) =
    OneUnknown
    (still_unknown (names_of s.entries) part parts
    (ap (λ names. takes_only names parts) (sym taken.names) ∙ unknown))

grown_before : (s t u : Said) (part : OptionOrOperand) (parts : List OptionOrOperand)
    → Taken s t part → Grown t parts u → Grown s (part ∷ parts) u
grown_before s t u part parts taken grown = record {
  operand = grown.operand ∙ taken.operand parts;
  given = λ option. grown.given option ∙ taken.given option parts;
  sets = λ options. grown.sets options ∙ taken.sets options parts;
}

gathers_taken : (s t : Said) (part : OptionOrOperand) (parts : List OptionOrOperand)
    → Taken s t part → Gathers t parts
    → MatchOption (gathered t parts) (Refused s (part ∷ parts)) (Grown s (part ∷ parts))
gathers_taken s t part parts taken = by_result (gathered t parts) where
  by_result : (o : Option Said) → MatchOption o (Refused t parts) (Grown t parts)
      → MatchOption o (Refused s (part ∷ parts)) (Grown s (part ∷ parts))
  by_result None refused = refused_before s t part parts taken refused
  by_result (Some u) grown = grown_before s t u part parts taken grown

abbrev pub said_by : Option (List ℕ) → List Entry → Said
said_by operand entries = record { operand = operand; entries = entries }

operand_taken : (entries : List Entry) (text : List ℕ)
    → Taken (said_by None entries) (said_by (Some text) entries) (Operand text)
operand_taken entries text = record {
  names = refl;
  operand = λ parts. refl;
  given = λ option parts. refl;
  sets = λ options parts. refl;
}

operand_gathers : (held : Option (List ℕ)) (entries : List Entry) (text : List ℕ)
    (parts : List OptionOrOperand) → ((t : Said) → Gathers t parts)
    → Gathers (said_by held entries) (Operand text ∷ parts)
operand_gathers (Some old) entries text parts later = TwoOperands (omega arith)
operand_gathers None entries text parts later =
    gathers_taken (said_by None entries) (said_by (Some text) entries) (Operand text) parts
    (operand_taken entries text) (later (said_by (Some text) entries))

own_taken : (k own rest : Bool) → k && (own && rest) ≡ (own && k) && rest
own_taken k own rest = grind (arith, nat_tests)

setting_taken : (held : Option (List ℕ)) (entries new : List Entry) (name value : List ℕ)
    → Added entries name value new
    → Taken (said_by held entries) (said_by held new) (Setting name value)
setting_taken held entries new name value added = record {
  names = added.names;
  operand = λ parts. refl;
  given = λ option parts. added.given option (values option parts);
  sets = λ options parts. rw (added.sets options)
      (own_taken (takes_only options parts) (list_any (bytes_eq name) options)
      (sets_only options entries));
}

setting_refused : (held : Option (List ℕ)) (entries : List Entry) (name value : List ℕ)
    (parts : List OptionOrOperand) → Barred entries name
    → Refused (said_by held entries) (Setting name value ∷ parts)
setting_refused held entries name value parts (NoEntry none) = OneUnknown (rw none refl)
setting_refused held entries name value parts (HasValue old has)
    = TwoValues name (rw (has, bytes_eq_self name) (omega arith))

setting_gathers : (held : Option (List ℕ)) (entries : List Entry) (name value : List ℕ)
    (parts : List OptionOrOperand) → ((t : Said) → Gathers t parts)
    → Gathers (said_by held entries) (Setting name value ∷ parts)
setting_gathers held entries name value parts later
    = by_entries (with_value entries name value) (adds entries name value) where
      by_entries : (o : Option (List Entry)) → MatchOption o (Barred entries name)
          (Added entries name value)
          → MatchOption (option_and_then (λ t. gathered t parts) (option_map (said_by held) o))
          (Refused (said_by held entries) (Setting name value ∷ parts))
          (Grown (said_by held entries) (Setting name value ∷ parts))
      by_entries None barred = setting_refused held entries name value parts barred
      by_entries (Some new) added =
          gathers_taken (said_by held entries) (said_by held new) (Setting name value) parts
          (setting_taken held entries new name value added) (later (said_by held new))

pub gathers : (parts : List OptionOrOperand) (s : Said) → Gathers s parts
gathers [] s = record {
  operand = sym (append-nil _);
  given = λ option. sym (append-nil _);
  sets = λ options. refl;
}
gathers (Operand text ∷ parts) s = operand_gathers s.operand s.entries text parts
    (λ t. gathers parts t)
gathers (Setting name value ∷ parts) s = setting_gathers s.operand s.entries name value parts
    (λ t. gathers parts t)
