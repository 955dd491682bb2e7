-- What the code knows of several modules, and of what a module takes from them. Devices of the
-- proofs.
use Rattle.std.specs.Prelude.{◌≡◌, ℕ, ◌<◌, ◌≤◌, ◌⊎◌, Bool, true, false, not, List, [], ◌∷◌, ◌++◌, map, fold, slice_get, take, codes, ◌&&◌, Option, Some, None}
use Rattle.std.specs.List.{AllZip, list_any}
use Rattle.std.specs.HashSet.{HashSet}
use Rattle.std.specs.Map.{lookup}
use Rattle.std.specs.Str.{bytes_eq}
use denote.Ref.{Bor}
use Rattle.seq.specs.Lists.{AllOf, or_empty}
use Rattle.core_reader.specs.declared.syntax.Binder.{Binder}
use Rattle.core_reader.specs.Tree.{Program}
use Rattle.core_reader.specs.LexedOf.{texts_of}
use Rattle.core_reader.specs.Readable.{IsReadable}
use Rattle.arity_check.specs.Broken as program
use Rattle.core_link.specs.declared.imports.ImportFaults.{ImportFaults}
use Rattle.core_link.specs.Module.{Module, Import, IsModuleText, text_in, name_of, body, begins_upper, as_function, as_constructor, seen}
use Rattle.core_link.specs.Rules.{NameIsTaken, IsImported, BreaksInterModuleRule, module_named}
use Rattle.core_link.specs.Found.{IsFirstPlaceWhere}

-- ---- what is known in a module

-- An imported name stands behind the declarations, as a constructor or as a function.
abbrev pub declare_as : Bool → Program → Binder → Program
declare_as true p b = record {
  names = p.names;
  constructors = p.constructors ++ as_constructor (b, b) ∷ [];
  functions = p.functions;
}
declare_as false p b = record {
  names = p.names;
  constructors = p.constructors;
  functions = p.functions ++ as_function (b, b) ∷ [];
}

abbrev pub declare : Program → Binder → Program
declare p b = declare_as (begins_upper (or_empty (slice_get p.names b.name.0))) p b

abbrev pub declare_all : Program → List Import → Program
declare_all p imports = fold (λ q i. fold declare q i.names) p imports

-- ---- what a module breaks by what it imports

-- a name is imported at this place that is taken
pub record ImportsTakenName (m : Module) (at : ℕ) : Type 0 where
  pub number : ℕ
  pub name : Binder × Binder
  pub is : IsImported m number name
  pub taken : NameIsTaken m number name.1
  pub place : name.1.at ≡ at

-- the first places at which the module breaks the rules 56 and 57
pub record AreImportFaults (m : Module) (t : ImportFaults) : Type 0 where
  pub again : IsFirstPlaceWhere (ImportsTakenName m) t.again
  pub unknown : IsFirstPlaceWhere (program.Broken (seen m) 14) t.unknown

-- ---- the tables

-- one of the texts is this one
abbrev pub has : List (List ℕ) → List ℕ → Bool
has texts w = list_any (bytes_eq w) texts

abbrev pub exports_text : Module → List ℕ → Bool
exports_text m w = has (map (λ b. text_in m b.name.0) m.exports) w

abbrev pub constructor_texts : Module → List (List ℕ)
constructor_texts m = map (λ d. text_in m d.name) m.constructors

-- one of the modules declares a constructor of this name
abbrev pub declares : List Module → List ℕ → Bool
declares ms w = list_any (λ m. has (constructor_texts m) w) ms

-- what the table has at a text
abbrev pub found_at : {V : Type 0} → List (Bor (List ℕ) × V) → List ℕ → Option V
found_at entries w = lookup (λ k. bytes_eq w k.now) entries

-- A module was found, and not this name among its exports.
abbrev pub lacks : {S : Type 0} → Option (HashSet (Bor (List ℕ)) S) → List ℕ → Bool
lacks None w = false
lacks (Some exports) w = not (has (texts_of exports.keys) w)

-- what the table has for a module: the texts of its exports
abbrev pub HasExports : {S : Type 0} → Option Module → Option (HashSet (Bor (List ℕ)) S) → Type 0
HasExports None None = Unit {0}
HasExports (Some m) (Some exports) = (w : List ℕ) → has (texts_of exports.keys) w ≡ exports_text m w
HasExports m exports = ⊥

-- the table has the exports of the first module of each name
abbrev pub IsIndex : {S : Type 0} → List Module → List (Bor (List ℕ) × HashSet (Bor (List ℕ)) S)
    → Type 0
IsIndex ms entries = (w : List ℕ) → HasExports (module_named ms w) (found_at entries w)

-- ---- the first broken rule between modules

-- the first place is that of a smaller file, or in one file by place and by number
abbrev pub IsNoLater : ℕ × (ℕ × ℕ) → (k file at : ℕ) → Type 0
IsNoLater f k file at =
    (f.0 < file) ⊎ ((f.0 ≡ file) × ((f.1.1 < at) ⊎ ((f.1.1 ≡ at) × (f.1.0 ≤ k))))

-- a file with a rule and its place, where any rule is broken
abbrev pub IsFirstBetween : List Module → Option (ℕ × (ℕ × ℕ)) → Type 0
IsFirstBetween ms None = (k file at : ℕ) → BreaksInterModuleRule ms k file at → ⊥
IsFirstBetween ms (Some f) =
    BreaksInterModuleRule ms f.1.0 f.0 f.1.1
    × ((k file at : ℕ) → BreaksInterModuleRule ms k file at → IsNoLater f k file at)

-- the module is `Main` and declares a `main`
abbrev pub declares_main : Module → Bool
declares_main m =
    bytes_eq (name_of m) (codes "Main")
    && list_any (λ f. bytes_eq (text_in m f.name) (codes "main")) m.functions

-- the tables of the modules before this one
pub record TablesMatchModules (ms : List Module) (file : ℕ) (named declared : List (Bor (List ℕ)))
    : Type 0 where
  pub names : (w : List ℕ) → has (texts_of named) w ≡ has (map name_of (take file ms)) w
  pub constructors : (w : List ℕ) → has (texts_of declared) w ≡ declares (take file ms) w

-- The texts stand for the modules, which are readable, and break these rules by what they import.
pub record AreRead (texts : List (List ℕ)) (ms : List Module) (ts : List ImportFaults)
    : Type 0 where
  pub modules : AllZip IsModuleText texts ms
  pub readable : AllOf (λ m. IsReadable (body m)) ms
  pub takings : AllZip AreImportFaults ms ts

-- The module stands behind the others, and what it breaks behind what they break.
pub record ModuleIsAppended (m : Module) (old new : List Module) (ts us : List ImportFaults)
    : Type 0 where
  pub taking : ImportFaults
  pub is : AreImportFaults m taking
  pub modules : new ≡ old ++ m ∷ []
  pub takings : us ≡ ts ++ taking ∷ []
