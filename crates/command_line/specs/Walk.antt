-- What the functions inside the crate compute: the walk over the words, one at a time, and the
-- table over what it has gathered.
use Rattle.std.specs.Prelude.{ℕ, ◌&&◌, ◌||◌, Bool, true, List, [], ◌∷◌, map, codes, Option, Some, None, is_none, option_to_list, if◌then◌else◌}
use Rattle.std.specs.List.{list_any}
use Rattle.std.specs.Option.{option_map, option_and_then, option_copied}
use Rattle.std.specs.Str.{bytes_eq}
use Rattle.command_line.specs.Parts.{OptionOrOperand, Setting, Operand, WordKind, Plain, Joined, Flag, Named, End, Unknown, begins_with_dash, word_of}
use Rattle.command_line.specs.Commands.{CommandLine, Form, by_name}
use Rattle.command_line.specs.declared.word.WordKind as code
use Rattle.command_line.specs.declared.word.WordKind.TheVariants as word
use Rattle.command_line.specs.declared.arguments.Arguments.{Arguments}
use Rattle.command_line.specs.declared.arguments.Walk as walk
use Rattle.command_line.specs.declared.arguments.Expected as expected
use Rattle.command_line.specs.declared.arguments.Expected.TheVariants as expects

-- a word of the code
abbrev pub word_seen : code.WordKind → WordKind
word_seen (word.Plain text) = Plain text.now
word_seen (word.Joined name value) = Joined name.now value.now
word_seen (word.Flag name) = Flag name.now
word_seen (word.Named name) = Named name.now
word_seen word.End = End
word_seen word.Unknown = Unknown

-- an option, and its value where it has one
pub record Entry : Type 0 where
  pub name : List ℕ
  pub value : Option (List ℕ)

-- the operand and the values of the options, each at most once
pub record Said : Type 0 where
  pub operand : Option (List ℕ)
  pub entries : List Entry

-- an option without a value
abbrev pub unset : (name : List ℕ) → Entry
unset name = record { name = name; value = None }

-- the options of all commands
abbrev pub option_names : List (List ℕ)
option_names =
    codes "after" ∷ codes "heap" ∷ codes "stack" ∷ codes "steps" ∷ codes "units" ∷ codes "seed"
    ∷ codes "size" ∷ codes "stats" ∷ []

abbrev pub no_options : Said
no_options = record { operand = None; entries = map unset option_names }

abbrev pub said : Arguments → Said
said a = record {
  operand = option_copied a.operand;
  entries = record { name = codes "after"; value = option_copied a.after }
      ∷ record { name = codes "heap"; value = option_copied a.heap }
      ∷ record { name = codes "stack"; value = option_copied a.stack }
      ∷ record { name = codes "steps"; value = option_copied a.steps }
      ∷ record { name = codes "units"; value = option_copied a.units }
      ∷ record { name = codes "seed"; value = option_copied a.seed }
      ∷ record { name = codes "size"; value = option_copied a.size }
      ∷ record { name = codes "stats"; value = option_copied a.stats }
      ∷ [];
}

-- with one operand more
abbrev pub with_operand : Said → (text : List ℕ) → Option Said
with_operand s text =
    if is_none s.operand then Some (record { operand = Some text; entries = s.entries }) else None

-- the entries with the value of one option more, which has none and stands among them
abbrev pub with_value : List Entry → (name value : List ℕ) → Option (List Entry)
with_value [] name value = None
with_value (entry ∷ entries) name value =
    if bytes_eq name entry.name
    then (if is_none entry.value
    then Some (record { name = entry.name; value = Some value } ∷ entries) else None)
    else option_map (λ others. entry ∷ others) (with_value entries name value)

-- with the value of one option more
abbrev pub with_setting : Said → (name value : List ℕ) → Option Said
with_setting s name value =
    option_map (λ entries. record {
      operand = s.operand;
      entries = entries;
    }) (with_value s.entries name value)

-- with one part more
abbrev pub with_part : Said → OptionOrOperand → Option Said
with_part s (Setting name value) = with_setting s name value
with_part s (Operand text) = with_operand s text

-- with all parts
abbrev pub gathered : Said → List OptionOrOperand → Option Said
gathered s [] = Some s
gathered s (part ∷ parts) = option_and_then (λ t. gathered t parts) (with_part s part)

-- what the next word is
pub data Next : Type 0 where
  Any : Next
  Value : (name : List ℕ) → Next
  Rest : Next

abbrev pub next_seen : expected.Expected → Next
next_seen expects.Any = Any
next_seen (expects.Value name) = Value name.now
next_seen expects.Operand = Rest

-- what words have said so far
pub record Place : Type 0 where
  pub arguments : Said
  pub next : Next

abbrev pub walk_seen : walk.Walk → Place
walk_seen w = record { arguments = said w.arguments; next = next_seen w.expected }

-- what is said, and what comes next
abbrev pub before : Next → Said → Place
before next s = record { arguments = s; next = next }

-- with one word more, behind a whole part
abbrev pub begun : Said → WordKind → Option Place
begun s (Plain text) = option_map (before Any) (with_operand s text)
begun s (Joined name value) = option_map (before Any) (with_setting s name value)
begun s (Flag name) = option_map (before Any) (with_setting s name [])
begun s (Named name) = Some (before (Value name) s)
begun s End = Some (before Rest s)
begun s Unknown = None

-- with one word more
abbrev pub walked : Place → (text : List ℕ) → Option Place
walked p text = elim p.next [
  | Any ↦ begun p.arguments (word_of text)
  | Value name ↦
      if begins_with_dash text then None
      else option_map (before Any) (with_setting p.arguments name text)
  | Rest ↦ option_map (before Rest) (with_operand p.arguments text)
]

-- the value of an option, if it has one
abbrev pub value_of : List Entry → (option : List ℕ) → Option (List ℕ)
value_of [] option = None
value_of (entry ∷ entries) option =
    if bytes_eq option entry.name then entry.value else value_of entries option

-- no option has a value but these
abbrev pub sets_only : (options : List (List ℕ)) → List Entry → Bool
sets_only options [] = true
sets_only options (entry ∷ entries) =
    (list_any (bytes_eq entry.name) options || is_none entry.value) && sets_only options entries

-- what is asked by a form with what is said
abbrev pub asked_said : Said → Form → Option CommandLine
asked_said s form =
    if sets_only form.options s.entries
    then form.asks (λ option. option_to_list (value_of s.entries option)) (option_to_list s.operand)
    else None

-- the command of this name with what is said
abbrev pub chosen : (name : List ℕ) → Said → Option CommandLine
chosen name s = by_name (asked_said s) name
