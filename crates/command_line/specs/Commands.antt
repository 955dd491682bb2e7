-- The commands, and the one that the words of a command line stand for.
use Rattle.std.specs.Prelude.{ℕ, ◌&&◌, ◌==◌, Bool, true, false, List, [], ◌∷◌, ◌++◌, length, map, codes, string_bytes, nat_le, Option, Some, None, if◌then◌else◌}
use Rattle.std.specs.List.{list_any}
use Rattle.std.specs.Option.{option_map, option_and_then}
use Rattle.std.specs.Str.{bytes_eq}
use Rattle.stage_names.specs.Words.{stage_named}
use Rattle.command_line.specs.Numbers.{number_within}
use Rattle.command_line.specs.Parts.{OptionOrOperand, Setting, Operand, parts_of}
use Rattle.command_line.specs.declared.command.Listing.{Listing}
use Rattle.command_line.specs.declared.command.Listing.TheVariants.{Read, Stage, Code}
use Rattle.command_line.specs.declared.files.FileOperands.{FileOperands}
use Rattle.command_line.specs.declared.command.Command.{Command}
use Rattle.command_line.specs.declared.command.Command.TheVariants.{Run, Check, List as Listed, Build, Costs, Trace, Profile, Exec, Gen, Link, Lift, Match, Types, Sides, Points}
use Rattle.limits.specs.Limits.{default_cells, most_cells, default_stack, least_stack, most_stack, default_steps, most_steps}

-- what a command line asks for
pub data CommandLine : Type 0 where
  RunFile : (file : List ℕ) → (cells stack steps : ℕ) → (stats : Bool) → CommandLine
  CheckFile : (file : List ℕ) → CommandLine
  ListFile : (file : List ℕ) → (after : Listing) → CommandLine
  BuildFile : (file : List ℕ) → (cells stack : ℕ) → CommandLine
  CostsFile : (file : List ℕ) → (cells stack : ℕ) → CommandLine
  TraceFile : (file : List ℕ) → (units : ℕ) → CommandLine
  ProfileFile : (file : List ℕ) → CommandLine
  ExecImage : (image : List ℕ) → (steps : ℕ) → (stats : Bool) → CommandLine
  GenRun : (seed size : ℕ) → CommandLine
  LinkFiles : (files : List (List ℕ)) → CommandLine
  LiftFile : (file : List ℕ) → CommandLine
  MatchFile : (file : List ℕ) → CommandLine
  TypesFile : (file : List ℕ) → CommandLine
  SidesFile : (file : List ℕ) → CommandLine
  PointsFile : (file : List ℕ) → CommandLine

-- the names of files, in their order
abbrev pub names_of : FileOperands → List (List ℕ)
names_of f = map string_bytes f.plain.now ++ map string_bytes f.rest.now

-- what a command asks for
abbrev pub asked_by : Command → CommandLine
asked_by (Run file cells stack steps stats) = RunFile file.now cells stack steps stats
asked_by (Check file) = CheckFile file.now
asked_by (Listed file after) = ListFile file.now after
asked_by (Build file cells stack) = BuildFile file.now cells stack
asked_by (Costs file cells stack) = CostsFile file.now cells stack
asked_by (Trace file units) = TraceFile file.now units
asked_by (Profile file) = ProfileFile file.now
asked_by (Exec image steps stats) = ExecImage image.now steps stats
asked_by (Gen seed size) = GenRun seed size
asked_by (Link files) = LinkFiles (names_of files)
asked_by (Lift file) = LiftFile file.now
asked_by (Match file) = MatchFile file.now
asked_by (Types file) = TypesFile file.now
asked_by (Sides file) = SidesFile file.now
asked_by (Points file) = PointsFile file.now

-- the listing that a word of `--after` names
abbrev pub listing_of : List ℕ → Option Listing
listing_of word =
    if bytes_eq word (codes "read") then Some Read
    else (if bytes_eq word (codes "code") then Some Code else option_map Stage (stage_named word))

-- the operands of the parts, in order
abbrev pub operands : List OptionOrOperand → List (List ℕ)
operands [] = []
operands (Setting name value ∷ parts) = operands parts
operands (Operand text ∷ parts) = text ∷ operands parts

-- the values that the parts give an option, in order
abbrev pub values : (option : List ℕ) → List OptionOrOperand → List (List ℕ)
values option [] = []
values option (Setting name value ∷ parts) =
    if bytes_eq name option then value ∷ values option parts else values option parts
values option (Operand text ∷ parts) = values option parts

-- every option of the parts is among these
abbrev pub takes_only : (options : List (List ℕ)) → List OptionOrOperand → Bool
takes_only options [] = true
takes_only options (Setting name value ∷ parts) =
    list_any (bytes_eq name) options && takes_only options parts
takes_only options (Operand text ∷ parts) = takes_only options parts

-- the operands of parts that have no option
abbrev pub operands_alone : List OptionOrOperand → Option (List (List ℕ))
operands_alone parts = if takes_only [] parts then Some (operands parts) else None

-- the one item of a list that has exactly one
abbrev pub only : {T : Type 0} → List T → Option T
only [] = None
only (x ∷ []) = Some x
only (x ∷ y ∷ rest) = None

-- The number that the values of an option write: the default where there is none.
abbrev pub option_number : (default least most : ℕ) → List (List ℕ) → Option ℕ
option_number default least most [] = Some default
option_number default least most (value ∷ []) = number_within least most value
option_number default least most (value ∷ other ∷ rest) = None

-- whether an option without a value stands, at most once
abbrev pub option_stands : List (List ℕ) → Option Bool
option_stands [] = Some false
option_stands (value ∷ []) = Some true
option_stands (value ∷ other ∷ rest) = None

-- the values that are given to each option
abbrev pub Given : Type 0
Given = (option : List ℕ) → List (List ℕ)

-- the cells of the heap, by `--heap`
abbrev pub cells_of : Given → Option ℕ
cells_of given = option_number default_cells 1 most_cells (given (codes "heap"))

-- the bytes of the stack, by `--stack`, a multiple of four or not
abbrev pub stack_of : Given → Option ℕ
stack_of given = option_number default_stack least_stack most_stack (given (codes "stack"))

-- the number of instructions, by `--steps`
abbrev pub steps_of : Given → Option ℕ
steps_of given = option_number default_steps 1 most_steps (given (codes "steps"))

-- the number of entries of a trace, by `--units`
abbrev pub units_of : Given → Option ℕ
units_of given = option_number 1000 1 1000000 (given (codes "units"))

-- whether the cost is asked for, by `--stats`
abbrev pub stats_of : Given → Option Bool
stats_of given = option_stands (given (codes "stats"))

-- the seed of a generated text, by `--seed`, which has to stand
abbrev pub seed_of : Given → Option ℕ
seed_of given = option_and_then (number_within 0 2147483647) (only (given (codes "seed")))

-- its size, by `--size`, which has to stand
abbrev pub size_of : Given → Option ℕ
size_of given = option_and_then (number_within 1 200) (only (given (codes "size")))

-- a form of command: its options, and what it asks for by their values and the operands
pub record Form : Type 0 where
  pub options : List (List ℕ)
  pub asks : Given → (operands : List (List ℕ)) → Option CommandLine

-- what is asked for of exactly one operand
abbrev pub of_operand : (List ℕ → Option CommandLine) → (operands : List (List ℕ))
    → Option CommandLine
of_operand asks operands = option_and_then asks (only operands)

-- what is asked for of no operand
abbrev pub without_operand : Option CommandLine → (operands : List (List ℕ)) → Option CommandLine
without_operand asked [] = asked
without_operand asked (operand ∷ operands) = None

-- `run FILE`, with or without `--heap N`, `--stack N`, `--steps N` and `--stats`
abbrev pub run_form : Form
run_form = record {
  options = codes "heap" ∷ codes "stack" ∷ codes "steps" ∷ codes "stats" ∷ [];
  asks = λ given. of_operand (λ file. option_and_then (λ cells. option_and_then (λ stack.
      option_and_then (λ steps. option_map (RunFile file cells stack steps) (stats_of given))
      (steps_of given)) (stack_of given)) (cells_of given));
}

-- a form with a file and without options
abbrev pub file_form : (ask : List ℕ → CommandLine) → Form
file_form ask = record { options = []; asks = λ given. of_operand (λ file. Some (ask file)) }

-- `check FILE`
abbrev pub check_form : Form
check_form = file_form CheckFile

-- `list FILE --after PASS`
abbrev pub list_form : Form
list_form = record {
  options = codes "after" ∷ [];
  asks =
      λ given. of_operand (λ file.
      option_map (ListFile file) (option_and_then listing_of (only (given (codes "after")))));
}

-- a form with a file, with or without `--heap N` and `--stack N`
abbrev pub sized_form : (ask : List ℕ → (cells stack : ℕ) → CommandLine) → Form
sized_form ask = record {
  options = codes "heap" ∷ codes "stack" ∷ [];
  asks =
      λ given. of_operand (λ file. option_and_then (λ cells.
      option_map (ask file cells) (stack_of given)) (cells_of given));
}

-- `build FILE`, with or without `--heap N` and `--stack N`
abbrev pub build_form : Form
build_form = sized_form BuildFile

-- `costs FILE`, with or without `--heap N` and `--stack N`
abbrev pub costs_form : Form
costs_form = sized_form CostsFile

-- `trace FILE`, with or without `--units N`
abbrev pub trace_form : Form
trace_form = record {
  options = codes "units" ∷ [];
  asks = λ given. of_operand (λ file. option_map (TraceFile file) (units_of given));
}

-- `profile FILE`
abbrev pub profile_form : Form
profile_form = file_form ProfileFile

-- `exec IMAGE`, with or without `--steps N` and `--stats`
abbrev pub exec_form : Form
exec_form = record {
  options = codes "steps" ∷ codes "stats" ∷ [];
  asks = λ given. of_operand (λ image. option_and_then (λ steps.
      option_map (ExecImage image steps) (stats_of given)) (steps_of given));
}

-- `gen --seed N --size N`
abbrev pub gen_form : Form
gen_form = record {
  options = codes "seed" ∷ codes "size" ∷ [];
  asks =
      λ given. without_operand
      (option_and_then (λ seed. option_map (GenRun seed) (size_of given)) (seed_of given));
}

-- `lift FILE`
abbrev pub lift_form : Form
lift_form = file_form LiftFile

-- `match FILE`
abbrev pub match_form : Form
match_form = file_form MatchFile

-- `types FILE`
abbrev pub types_form : Form
types_form = file_form TypesFile

-- `sides FILE`
abbrev pub sides_form : Form
sides_form = file_form SidesFile

-- `points FILE`
abbrev pub points_form : Form
points_form = file_form PointsFile

-- `link FILE..`, with 1 to 64 files
abbrev pub link_form : Form
link_form = record {
  options = [];
  asks =
      λ given files.
      if nat_le 1 (length files) && nat_le (length files) 64 then Some (LinkFiles files) else None;
}

-- what a function says of the form that has this name, if there is one that takes no more than one
-- operand
abbrev pub by_name : (ask : Form → Option CommandLine) → (name : List ℕ) → Option CommandLine
by_name ask name =
    if bytes_eq name (codes "run") then ask run_form
    else (if bytes_eq name (codes "check") then ask check_form
    else (if bytes_eq name (codes "list") then ask list_form
    else (if bytes_eq name (codes "build") then ask build_form
    else (if bytes_eq name (codes "costs") then ask costs_form
    else (if bytes_eq name (codes "trace") then ask trace_form
    else (if bytes_eq name (codes "profile") then ask profile_form
    else (if bytes_eq name (codes "exec") then ask exec_form
    else (if bytes_eq name (codes "gen") then ask gen_form
    else (if bytes_eq name (codes "lift") then ask lift_form
    else (if bytes_eq name (codes "match") then ask match_form
    else (if bytes_eq name (codes "types") then ask types_form
    else (if bytes_eq name (codes "sides") then ask sides_form
    else (if bytes_eq name (codes "points") then ask points_form
    else None)))))))))))))

-- what parts with options of the form alone ask for
abbrev pub asked : List OptionOrOperand → Form → Option CommandLine
asked parts form =
    if takes_only form.options parts then form.asks (λ option. values option parts) (operands parts)
    else None

-- the command of this name with these parts
abbrev pub command_from : (name : List ℕ) → List OptionOrOperand → Option CommandLine
command_from name parts =
    if bytes_eq name (codes "link") then asked parts link_form else by_name (asked parts) name

-- a word without a byte
abbrev pub is_empty : List ℕ → Bool
is_empty word = length word == 0

-- What a command line asks for, if it asks for anything. The first word is the program's name, the
-- second the command's; no word behind the first is empty.
abbrev pub command_of : List (List ℕ) → Option CommandLine
command_of [] = None
command_of (program ∷ []) = None
command_of (program ∷ name ∷ words) =
    if list_any is_empty (name ∷ words) then None
    else option_and_then (command_from name) (parts_of words)
