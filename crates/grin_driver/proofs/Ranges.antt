-- What a command line asks for is within the limits.
use Rattle.std.proofs.Common.{◌≡◌, ℕ, ◌≤◌, Bool, true, false, List, [], ◌∷◌, Option, Some, None, refl, subst, arith}
use Rattle.std.specs.Prelude.{◌&&◌, if◌then◌else◌, nat_le, length, codes, IfSome, bytes_eq}
use Rattle.std.specs.List.{list_any}
use Rattle.std.specs.Option.{option_map, option_and_then}
use Rattle.std.specs.Str.Parse.{digits_value}
use Rattle.std.proofs.lemmas.Bool.Decides.{nat_tests}
use Rattle.command_line.specs.Numbers.{is_number}
use Rattle.command_line.specs.Parts.{OptionOrOperand, parts_of}
use Rattle.command_line.specs.Commands.{CommandLine, RunFile, CheckFile, ListFile, BuildFile, CostsFile, TraceFile, ProfileFile, ExecImage, GenRun, LinkFiles, LiftFile, MatchFile, TypesFile, SidesFile, PointsFile, Form, Given, option_number, cells_of, stack_of, steps_of, stats_of, units_of, run_form, file_form, check_form, list_form, sized_form, build_form, costs_form, trace_form, profile_form, exec_form, gen_form, lift_form, match_form, types_form, sides_form, points_form, link_form, of_operand, without_operand, asked, command_from, command_of, operands, values, takes_only, only, is_empty, seed_of, size_of}
use Rattle.grin_compile.specs.Limits.{SizesAreInRange}
use Rattle.grin_driver.specs.Answer.{SizesAreWithinLimits}

-- ---- of what may be none

module _ {A B : Type 0} where
  some_and_then : (f : A → Option B) (P : A → Type 0) (Q : B → Type 0) (o : Option A) → IfSome o P
      → ((x : A) → P x → IfSome (f x) Q) → IfSome (option_and_then f o) Q
  some_and_then f P Q None h k = tt
  some_and_then f P Q (Some x) h k = k x h

  some_map : (f : A → B) (P : A → Type 0) (Q : B → Type 0) (o : Option A) → IfSome o P
      → ((x : A) → P x → Q (f x)) → IfSome (option_map f o) Q
  some_map f P Q None h k = tt
  some_map f P Q (Some x) h k = k x h

some_any : {A : Type 0} (o : Option A) → IfSome o (λ x. Unit {0})
some_any None = tt
some_any (Some x) = tt

some_either : {A : Type 0} (P : A → Type 0) (b : Bool) (x y : Option A) → IfSome x P → IfSome y P
    → IfSome (if b then x else y) P
some_either P true x y h k = h
some_either P false x y h k = k

-- ---- numbers of a range

abbrev Within : (least most : ℕ) → ℕ → Type 0
Within least most number = (least ≤ number) × (number ≤ most)

within_test : (digits : Bool) (least most number : ℕ)
    → IfSome (if digits && (nat_le least number && nat_le number most) then Some number else None)
    (Within least most)
within_test digits least most number = go (digits && (nat_le least number && nat_le number most))
    refl
  where
    go : (b : Bool) → digits && (nat_le least number && nat_le number most) ≡ b
        → IfSome (if b then Some number else None) (Within least most)
    go true e = (grind (arith, nat_tests), grind (arith, nat_tests))
    go false e = tt

number_in_range : (default least most : ℕ) → least ≤ default → default ≤ most
    → (values : List (List ℕ)) → IfSome (option_number default least most values)
    (Within least most)
number_in_range default least most low high [] = (low, high)
number_in_range default least most low high (value ∷ [])
    = within_test (is_number value) least most (digits_value 10 value)
number_in_range default least most low high (value ∷ other ∷ rest) = tt

-- ---- the forms

of_any : (asks : List ℕ → Option CommandLine) (operands : List (List ℕ))
    → ((operand : List ℕ) → IfSome (asks operand) SizesAreWithinLimits)
    → IfSome (of_operand asks operands) SizesAreWithinLimits
of_any asks operands h = some_and_then asks (λ operand. Unit {0}) SizesAreWithinLimits
    (only operands) (some_any (only operands)) (λ operand n. h operand)

runs_within : (given : Given) (operands : List (List ℕ))
    → IfSome (run_form.asks given operands) SizesAreWithinLimits
runs_within given operands = of_any _ operands (λ file.
    some_and_then _ (Within 1 8000000) SizesAreWithinLimits (cells_of given)
    (number_in_range 1000000 1 8000000 (omega arith) (omega arith) (given (codes "heap")))
    (λ cells c.
    some_and_then _ (Within 1024 67108864) SizesAreWithinLimits (stack_of given)
    (number_in_range 1048576 1024 67108864 (omega arith) (omega arith) (given (codes "stack")))
    (λ stack s.
    some_and_then _ (λ steps. Unit {0}) SizesAreWithinLimits (steps_of given)
    (some_any (steps_of given)) (λ steps n.
    some_map (RunFile file cells stack steps) (λ stats. Unit {0}) SizesAreWithinLimits
    (stats_of given) (some_any (stats_of given)) (λ stats m.
    record { some_cells = c.0; few_cells = c.1; some_stack = s.0; small_stack = s.1 })))))

files_within : (ask : List ℕ → CommandLine) → ((file : List ℕ) → SizesAreWithinLimits (ask file))
    → (given : Given) (operands : List (List ℕ)) → IfSome ((file_form ask).asks given operands)
    SizesAreWithinLimits
files_within ask within given operands = of_any _ operands within

lists_within : (given : Given) (operands : List (List ℕ))
    → IfSome (list_form.asks given operands) SizesAreWithinLimits
lists_within given operands = of_any _ operands
    (λ file. some_map (ListFile file) (λ after. Unit {0}) SizesAreWithinLimits _ (some_any _)
    (λ after n. tt))

sized_within : (ask : List ℕ → (cells stack : ℕ) → CommandLine)
    → ((file : List ℕ) (cells stack : ℕ) → SizesAreInRange cells stack
    → SizesAreWithinLimits (ask file cells stack)) → (given : Given) (operands : List (List ℕ))
    → IfSome ((sized_form ask).asks given operands) SizesAreWithinLimits
sized_within ask within given operands = of_any _ operands (λ file.
    some_and_then _ (Within 1 8000000) SizesAreWithinLimits (cells_of given)
    (number_in_range 1000000 1 8000000 (omega arith) (omega arith) (given (codes "heap")))
    (λ cells c.
    some_map (ask file cells) (Within 1024 67108864) SizesAreWithinLimits (stack_of given)
    (number_in_range 1048576 1024 67108864 (omega arith) (omega arith) (given (codes "stack")))
    (λ stack s. within file cells stack
    (record { some_cells = c.0; few_cells = c.1; some_stack = s.0; small_stack = s.1 }))))

traces_within : (given : Given) (operands : List (List ℕ))
    → IfSome (trace_form.asks given operands) SizesAreWithinLimits
traces_within given operands = of_any _ operands (λ file.
    some_map (TraceFile file) (λ units. Unit {0}) SizesAreWithinLimits (units_of given)
    (some_any (units_of given)) (λ units n. tt))

execs_within : (given : Given) (operands : List (List ℕ))
    → IfSome (exec_form.asks given operands) SizesAreWithinLimits
execs_within given operands = of_any _ operands (λ image.
    some_and_then _ (λ steps. Unit {0}) SizesAreWithinLimits (steps_of given)
    (some_any (steps_of given)) (λ steps n.
    some_map (ExecImage image steps) (λ stats. Unit {0}) SizesAreWithinLimits (stats_of given)
    (some_any (stats_of given)) (λ stats m. tt)))

without_any : (asked : Option CommandLine) (operands : List (List ℕ))
    → IfSome asked SizesAreWithinLimits → IfSome (without_operand asked operands)
    SizesAreWithinLimits
without_any asked [] h = h
without_any asked (operand ∷ operands) h = tt

gens_within : (given : Given) (operands : List (List ℕ))
    → IfSome (gen_form.asks given operands) SizesAreWithinLimits
gens_within given operands = without_any _ operands
    (some_and_then (λ seed. option_map (GenRun seed) (size_of given)) (λ seed. Unit {0})
    SizesAreWithinLimits (seed_of given) (some_any (seed_of given)) (λ seed n.
    some_map (GenRun seed) (λ size. Unit {0}) SizesAreWithinLimits (size_of given)
    (some_any (size_of given)) (λ size m. tt)))

links_within : (given : Given) (operands : List (List ℕ))
    → IfSome (link_form.asks given operands) SizesAreWithinLimits
links_within given operands = some_either SizesAreWithinLimits
    (nat_le 1 (length operands) && nat_le (length operands) 64) (Some (LinkFiles operands)) None tt
    tt

-- ---- the command line

asked_within : (parts : List OptionOrOperand) (form : Form)
    → ((given : Given) (operands : List (List ℕ)) → IfSome (form.asks given operands)
    SizesAreWithinLimits) → IfSome (asked parts form) SizesAreWithinLimits
asked_within parts form h =
    some_either SizesAreWithinLimits (takes_only form.options parts) _ None
    (h (λ option. values option parts) (operands parts)) tt

from_within : (name : List ℕ) (parts : List OptionOrOperand)
    → IfSome (command_from name parts) SizesAreWithinLimits
from_within name parts =
    some_either SizesAreWithinLimits (bytes_eq name (codes "link")) _ _
    (asked_within parts link_form links_within)
    (some_either SizesAreWithinLimits (bytes_eq name (codes "run")) _ _
    (asked_within parts run_form runs_within)
    (some_either SizesAreWithinLimits (bytes_eq name (codes "check")) _ _
    (asked_within parts check_form (files_within CheckFile (λ file. tt)))
    (some_either SizesAreWithinLimits (bytes_eq name (codes "list")) _ _
    (asked_within parts list_form lists_within)
    (some_either SizesAreWithinLimits (bytes_eq name (codes "build")) _ _
    (asked_within parts build_form (sized_within BuildFile (λ file cells stack r. r)))
    (some_either SizesAreWithinLimits (bytes_eq name (codes "costs")) _ _
    (asked_within parts costs_form (sized_within CostsFile (λ file cells stack r. r)))
    (some_either SizesAreWithinLimits (bytes_eq name (codes "trace")) _ _
    (asked_within parts trace_form traces_within)
    (some_either SizesAreWithinLimits (bytes_eq name (codes "profile")) _ _
    (asked_within parts profile_form (files_within ProfileFile (λ file. tt)))
    (some_either SizesAreWithinLimits (bytes_eq name (codes "exec")) _ _
    (asked_within parts exec_form execs_within)
    (some_either SizesAreWithinLimits (bytes_eq name (codes "gen")) _ _
    (asked_within parts gen_form gens_within)
    (some_either SizesAreWithinLimits (bytes_eq name (codes "lift")) _ _
    (asked_within parts lift_form (files_within LiftFile (λ file. tt)))
    (some_either SizesAreWithinLimits (bytes_eq name (codes "match")) _ _
    (asked_within parts match_form (files_within MatchFile (λ file. tt)))
    (some_either SizesAreWithinLimits (bytes_eq name (codes "types")) _ _
    (asked_within parts types_form (files_within TypesFile (λ file. tt)))
    (some_either SizesAreWithinLimits (bytes_eq name (codes "sides")) _ _
    (asked_within parts sides_form (files_within SidesFile (λ file. tt)))
    (some_either SizesAreWithinLimits (bytes_eq name (codes "points")) _ None
    (asked_within parts points_form (files_within PointsFile (λ file. tt))) tt))))))))))))))

commands_within : (words : List (List ℕ)) → IfSome (command_of words) SizesAreWithinLimits
commands_within [] = tt
commands_within (program ∷ []) = tt
commands_within (program ∷ name ∷ words) =
    some_either SizesAreWithinLimits (list_any is_empty (name ∷ words)) None _ tt
    (some_and_then (command_from name) (λ parts. Unit {0}) SizesAreWithinLimits (parts_of words)
    (some_any (parts_of words)) (λ parts n. from_within name parts))

-- what a line asks for is within the limits
pub asked_is_within : (words : List (List ℕ)) (command : CommandLine)
    → command_of words ≡ Some command → SizesAreWithinLimits command
asked_is_within words command is = subst (λ o. IfSome o SizesAreWithinLimits) is
    (commands_within words)
