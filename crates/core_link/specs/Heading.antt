-- Reading the tokens of a module, one after the other. A device of the proofs: no public clause
-- speaks of it.
use Rattle.std.specs.Prelude.{◌≡◌, ℕ, Bool, true, false, not, ◌&&◌, List, [], ◌∷◌, ◌++◌, map, Option, Some, None, Result, slice_get, if◌then◌else◌}
use Rattle.std.specs.Global.{Vec}
use Rattle.std.specs.List.{list_all}
use Rattle.seq.specs.Lists.{or_empty}
use Rattle.core_reader.specs.declared.syntax.NameId.{NameId}
use Rattle.core_reader.specs.declared.syntax.Binder.{Binder}
use Rattle.core_reader.specs.declared.token.Token.{Token}
use Rattle.core_reader.specs.declared.token.Token.TheVariants as word
use Rattle.core_reader.specs.declared.token.Further.TheVariants as further
use Rattle.core_reader.specs.declared.token.Lexeme.{Lexeme}
use Rattle.core_reader.specs.declared.refusal.ReadRefusal.{ReadRefusal}
use Rattle.core_reader.specs.Grammar.{NestingLimit, Decl, at_most_200}
use Rattle.core_reader.specs.ReadingOf.{Step, go, done, stop, Reading, run_of}
use Rattle.core_reader.specs.Machine.{refused, Goes}
use Rattle.core_reader.specs.Declaring as core
use Rattle.core_link.specs.declared.header.Header as code-header
use Rattle.core_link.specs.declared.module.Import as code-import
use Rattle.core_link.specs.Module.{ModuleHeader, Import, SpellsModule, is_alphanumeric}
use Rattle.core_link.specs.ModuleOf.{import_of}

abbrev pub binder : NameId → ℕ → Binder
binder n at = record { name = n; at = at }

abbrev pub named : Binder → ModuleHeader
named b = record { name = b; exports = []; imports = [] }

-- one more name, and one more import
abbrev pub exporting : ModuleHeader → List Binder → ModuleHeader
exporting h bs = record { name = h.name; exports = h.exports ++ bs; imports = h.imports }

abbrev pub importing : ModuleHeader → Import → ModuleHeader
importing h i =
    record { name = h.name; exports = h.exports; imports = h.imports ++ i ∷ [] }

abbrev pub import_from : Binder → List Binder → Import
import_from b bs = record { from = b; names = bs }

pub data State : Type 0 where
  Start : State
  ModuleName : State
  NameEnd : Binder → State
  Exports : ModuleHeader → State
  ExportWords : ModuleHeader → State
  Imports : ModuleHeader → State
  ImportName : ModuleHeader → State
  ImportWords : ModuleHeader → Binder → List Binder → State
  Declares : ModuleHeader → core.State → State

abbrev pub ModuleParts : Type 0
ModuleParts = ModuleHeader × List Decl

-- a step behind the header is one of Core
abbrev pub behind_head : ModuleHeader → Step core.State (List Decl) → Step State ModuleParts
behind_head h (go s) = go (Declares h s)
behind_head h (done ds) = done (h, ds)
behind_head h (stop e) = stop e

abbrev pub step : NestingLimit → State → ℕ → Token → Step State ModuleParts
step l Start at (word.Further further.Module) = go ModuleName
step l ModuleName at (word.Con n) = go (NameEnd (binder n at))
step l (NameEnd b) at word.Semicolon = go (Exports (named b))
step l (Exports h) at (word.Further further.Export) = go (ExportWords h)
step l (Exports h) at (word.Further further.Import) = go (ImportName h)
step l (Exports h) at token = behind_head h (core.step l (core.top []) at token)
step l (ExportWords h) at (word.Name n) = go (ExportWords (exporting h (binder n at ∷ [])))
step l (ExportWords h) at (word.Con n) = go (ExportWords (exporting h (binder n at ∷ [])))
step l (ExportWords h) at word.Semicolon = go (Exports h)
step l (Imports h) at (word.Further further.Import) = go (ImportName h)
step l (Imports h) at token = behind_head h (core.step l (core.top []) at token)
step l (ImportName h) at (word.Con n) = go (ImportWords h (binder n at) [])
step l (ImportWords h b bs) at (word.Name n) = go (ImportWords h b (bs ++ binder n at ∷ []))
step l (ImportWords h b bs) at (word.Con n) = go (ImportWords h b (bs ++ binder n at ∷ []))
step l (ImportWords h b bs) at word.Semicolon = go (Imports (importing h (import_from b bs)))
step l (Declares h s) at token = behind_head h (core.step l s at token)
step l s at token = stop (refused at token)

-- the reading of a text of a module
abbrev pub modules : Reading
modules = record {
  State = State;
  Tree = ModuleParts;
  start = Start;
  step = step;
  Spells = SpellsModule;
}

abbrev pub run : State → List Lexeme → Result ModuleParts ReadRefusal
run = run_of step at_most_200

-- ---- what each part of the reader of a header does

abbrev pub head : Binder → List Binder → List Import → ModuleHeader
head name exports imports = record { name = name; exports = exports; imports = imports }

abbrev pub IsNoWord : Token → Type 0
IsNoWord (word.Name n) = ⊥
IsNoWord (word.Con n) = ⊥
IsNoWord word.Semicolon = ⊥
IsNoWord token = Unit {0}

-- A state that keeps words takes one more, and at a `;` it goes on to another.
pub record KeepsWords (state next : List Binder → State) : Type 0 where
  pub name : (bs : List Binder) (n : NameId) (at : ℕ)
      → step at_most_200 (state bs) at (word.Name n) ≡ go (state (bs ++ binder n at ∷ []))
  pub con : (bs : List Binder) (n : NameId) (at : ℕ)
      → step at_most_200 (state bs) at (word.Con n) ≡ go (state (bs ++ binder n at ∷ []))
  pub end : (bs : List Binder) (at : ℕ)
      → step at_most_200 (state bs) at word.Semicolon ≡ go (next bs)
  pub other : (bs : List Binder) (at : ℕ) (token : Token) → IsNoWord token
      → step at_most_200 (state bs) at token ≡ stop (refused at token)

-- Words were read behind others, by whatever keeps them.
abbrev pub ReadsWords : {X : Type 0} → List Binder → List Binder → List Lexeme → List Lexeme
    → Result X ReadRefusal → Type 0
ReadsWords before after old new result =
    (state next : List Binder → State) → KeepsWords state next
    → Goes result (run (state before) old) (λ _. run (next after) new)

abbrev pub ReadsExports : List Lexeme → List Lexeme → Result (Vec Binder) ReadRefusal → Type 0
ReadsExports old new result =
    (name : Binder)
    → Goes result (run (Exports (head name [] [])) old) (λ v.
    run (Exports (head name v.items [])) new)

abbrev pub ReadsImport : List Lexeme → List Lexeme → Result code-import.Import ReadRefusal
    → Type 0
ReadsImport old new result =
    (h : ModuleHeader)
    → Goes result (run (ImportName h) old) (λ i. run (Imports (importing h (import_of i))) new)

abbrev pub ReadsImports : List Lexeme → List Lexeme → Result (Vec code-import.Import) ReadRefusal
    → Type 0
ReadsImports old new result =
    (name : Binder) (exports : List Binder)
    → Goes result (run (Exports (head name exports [])) old) (λ v.
    run (Declares (head name exports (map import_of v.items)) (core.top [])) new)

abbrev pub ReadsName : List Lexeme → List Lexeme → Result Binder ReadRefusal → Type 0
ReadsName old new result = Goes result (run ModuleName old) (λ b. run (NameEnd b) new)

abbrev pub parts_of : code-header.Header → ModuleHeader
parts_of h = head h.name h.exports.items (map import_of h.imports.items)

abbrev pub ReadsHeader : List Lexeme → List Lexeme → Result code-header.Header ReadRefusal
    → Type 0
ReadsHeader old new result =
    Goes result (run Start old) (λ h. run (Declares (parts_of h) (core.top [])) new)

-- ---- a module that is not named so

abbrev pub is_module : Token → Bool
is_module (word.Further further.Module) = true
is_module token = false

abbrev pub is_bad_module_name : List (List ℕ) → Token → Bool
is_bad_module_name names (word.Con n) =
    not (list_all is_alphanumeric (or_empty (slice_get names n.0)))
is_bad_module_name names token = false

-- the place of the second token, where it is a module's name with other bytes than letters and
-- digits
abbrev pub misnamed : List (List ℕ) → List Lexeme → Option ℕ
misnamed names [] = None
misnamed names (x ∷ []) = None
misnamed names (x ∷ y ∷ ts) =
    if is_module x.token && is_bad_module_name names y.token then Some y.at else None
