-- What the walk gathers decides the command as the parts do.
use Rattle.std.proofs.Common.{◌≡◌, ℕ, ◌≤◌, Bool, true, false, ◌&&◌, List, [], ◌∷◌, ◌++◌, length, Option, Some, None, if◌then◌else◌, MatchOption, option_to_list, refl, sym, ap, ◌∙◌, arith}
use Rattle.std.proofs.Math.Path.{fun_ext}
use Rattle.std.specs.List.{list_any}
use Rattle.std.specs.Option.{option_and_then}
use Rattle.std.specs.Str.{bytes_eq}
use Rattle.std.proofs.lemmas.Slice.Eq.{bytes_eq-Decides}
use Rattle.std.proofs.lemmas.Bool.Decides.{nat_tests}
use Rattle.command_line.specs.Parts.{OptionOrOperand, Setting, Operand}
use Rattle.command_line.specs.Commands.{CommandLine, BuildFile, CheckFile, CostsFile, ProfileFile, LiftFile, MatchFile, TypesFile, SidesFile, PointsFile, Form, operands, values, takes_only, run_form, check_form, list_form, build_form, costs_form, trace_form, profile_form, exec_form, gen_form, lift_form, match_form, types_form, sides_form, points_form, by_name, asked}
use Rattle.command_line.specs.Walk.{Said, no_options, option_names, value_of, sets_only, gathered, asked_said, chosen}
use Rattle.command_line.proofs.Entries.{unset_value, unset_sets}
use Rattle.command_line.proofs.Gathering.{Grown, Refused, TwoOperands, TwoValues, OneUnknown, gathers, and_false}
use Rattle.command_line.proofs.Forms.{Strict, run_strict, list_strict, sized_strict, trace_strict, exec_strict, gen_strict, file_strict}

and_true : (a : Bool) → a && true ≡ a
and_true a = grind (arith, nat_tests)

-- A form asks for the same by what is gathered.
grown_asks : (form : Form) (parts : List OptionOrOperand) (s : Said) → Grown no_options parts s
    → asked_said s form ≡ asked parts form
grown_asks form parts s has =
    let given : (λ (option : List ℕ). option_to_list (value_of s.entries option)) ≡
    (λ (option : List ℕ). values option parts) =
    fun_ext (λ option. has.given option ∙ ap
    (λ (o : Option (List ℕ)). option_to_list o ++ values option parts)
    (unset_value option_names option)) in
    let sets : sets_only form.options s.entries ≡ takes_only form.options parts =
    has.sets form.options ∙
    (ap (λ (b : Bool). takes_only form.options parts && b)
    (unset_sets form.options option_names) ∙ and_true (takes_only form.options parts)) in
    rw (given, sets, has.operand) refl

if_same : {T : Type 0} (x : T) (test : Bool) → (if test then x else x) ≡ x
if_same x true = refl
if_same x false = refl

-- what asks for nothing, whatever a test says
makes_none : (test : Bool) (asks : Option CommandLine) → asks ≡ None
    → None ≡ (if test then asks else None)
makes_none test asks none = rw none (sym (if_same None test))

-- an option with a value that is none of these

stranger : (options : List (List ℕ)) (option : List ℕ) → list_any (bytes_eq option) options ≡ false
    → (parts : List OptionOrOperand)
    → 1 ≤ length (values option parts) → takes_only options parts ≡ false
stranger options option none [] some = absurd (omega arith)
stranger options option none (Operand text ∷ parts) some = stranger options option none parts some
stranger options option none (Setting name value ∷ parts) some
    = by_name (bytes_eq name option) refl (stranger options option none parts) where
      by_name : (own : Bool) → bytes_eq name option ≡ own
          → (1 ≤ length (values option parts) → takes_only options parts ≡ false)
          → list_any (bytes_eq name) options && takes_only options parts ≡ false
      by_name true own rest =
          let same : name ≡ option = (bytes_eq-Decides name option).0 own in
          rw (same, none) refl
      by_name false other rest = rw (rest (rw other at some))
          (and_false (list_any (bytes_eq name) options))

-- An option that there isn't is no form's.
no_form : (form : Form) → Strict form → (parts : List OptionOrOperand)
    → takes_only option_names parts ≡ false → takes_only form.options parts ≡ false
no_form form strict [] unknown = absurd (cc unknown)
no_form form strict (Operand text ∷ parts) unknown = no_form form strict parts unknown
no_form form strict (Setting name value ∷ parts) unknown
    = by_name (list_any (bytes_eq name) option_names) refl (no_form form strict parts) where
      by_name : (is : Bool) → list_any (bytes_eq name) option_names ≡ is
          → (takes_only option_names parts ≡ false → takes_only form.options parts ≡ false)
          → list_any (bytes_eq name) form.options && takes_only form.options parts ≡ false
      by_name true is rest = rw (rest (rw is at unknown))
          (and_false (list_any (bytes_eq name) form.options))
      by_name false is rest = rw (strict.known name is) refl

-- A form asks for nothing where its parts can't be gathered.
refused_asks : (form : Form) → Strict form → (parts : List OptionOrOperand)
    → Refused no_options parts → None ≡ asked parts form
refused_asks form strict parts (TwoOperands two) =
    makes_none (takes_only form.options parts)
    (form.asks (λ (name : List ℕ). values name parts) (operands parts))
    (strict.alone (λ (name : List ℕ). values name parts) (operands parts) two)
refused_asks form strict parts (OneUnknown unknown) = rw (no_form form strict parts unknown) refl
refused_asks form strict parts (TwoValues option two)
    = by_option (list_any (bytes_eq option) form.options) refl where
      twice : 2 ≤ length (values option parts)
      twice = rw (unset_value option_names option) at two

      by_option : (own : Bool) → list_any (bytes_eq option) form.options ≡ own
          → None ≡ asked parts form
      by_option true own =
          makes_none (takes_only form.options parts)
          (form.asks (λ (name : List ℕ). values name parts) (operands parts))
          (strict.once (λ (name : List ℕ). values name parts) option (operands parts) own twice)
      by_option false other = rw (stranger form.options option other parts (omega (arith, twice)))
          refl

pub chosen_from : (name : List ℕ) (parts : List OptionOrOperand)
    → option_and_then (chosen name) (gathered no_options parts) ≡ by_name (asked parts) name
chosen_from name parts = by_result (gathered no_options parts) (gathers parts no_options) where
  by_result : (o : Option Said) → MatchOption o (Refused no_options parts) (Grown no_options parts)
      → option_and_then (chosen name) o ≡ by_name (asked parts) name
  by_result None refused =
      rw (
        ← refused_asks run_form run_strict parts refused,
        ← refused_asks check_form (file_strict CheckFile) parts refused,
        ← refused_asks list_form list_strict parts refused,
        ← refused_asks build_form (sized_strict BuildFile) parts refused,
        ← refused_asks costs_form (sized_strict CostsFile) parts refused,
        ← refused_asks trace_form trace_strict parts refused,
        ← refused_asks profile_form (file_strict ProfileFile) parts refused,
        ← refused_asks exec_form exec_strict parts refused,
        ← refused_asks gen_form gen_strict parts refused,
        ← refused_asks lift_form (file_strict LiftFile) parts refused,
        ← refused_asks match_form (file_strict MatchFile) parts refused,
        ← refused_asks types_form (file_strict TypesFile) parts refused,
        ← refused_asks sides_form (file_strict SidesFile) parts refused,
        ← refused_asks points_form (file_strict PointsFile) parts refused,
      ) (simp if_same)
  by_result (Some s) has =
      rw (
        grown_asks run_form parts s has,
        grown_asks check_form parts s has,
        grown_asks list_form parts s has,
        grown_asks build_form parts s has,
        grown_asks costs_form parts s has,
        grown_asks trace_form parts s has,
        grown_asks profile_form parts s has,
        grown_asks exec_form parts s has,
        grown_asks gen_form parts s has,
        grown_asks lift_form parts s has,
        grown_asks match_form parts s has,
        grown_asks types_form parts s has,
        grown_asks sides_form parts s has,
        grown_asks points_form parts s has,
      ) refl

-- The command of what is gathered is that of the parts.
pub chosen_from_parts : (name : List ℕ) (parts : Option (List OptionOrOperand))
    → option_and_then (chosen name) (option_and_then (gathered no_options) parts) ≡ option_and_then
    (λ parts. by_name (asked parts) name) parts
chosen_from_parts name (Some parts) = chosen_from name parts
chosen_from_parts name None = refl
