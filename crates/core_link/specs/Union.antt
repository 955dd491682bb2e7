-- The program that modules are together.
use Rattle.std.specs.Prelude.{◌≡◌, ℕ, ◌-◌, nat_lt, ◌&&◌, List, [], ◌++◌, map, length, Option, Some, None, slice_get, codes, if◌then◌else◌}
use Rattle.std.specs.List.{AllZip, flat_map}
use Rattle.std.specs.List.Sorted.{IsStrictlySortedBy}
use Rattle.std.specs.Ordering.{nat_cmp}
use Rattle.std.specs.Str.{bytes_eq}
use Rattle.std.specs.Cmp.Lexicographic.{slice_cmp}
use Rattle.seq.specs.Lists.{In}
use Rattle.core_reader.specs.declared.syntax.Binder.{Binder}
use Rattle.core_reader.specs.Tree.{Data, Function, Program}
use Rattle.core_print.specs.Renamed.{RenamedData, RenamedFunction}
use Rattle.arity_check.specs.declared.meaning.Meaning.{Meaning}
use Rattle.arity_check.specs.declared.meaning.Meaning.TheVariants as meaning
use Rattle.arity_check.specs.Scope.{Scope, means}
use Rattle.arity_check.specs.Pieces.{within}
use Rattle.core_link.specs.Module.{Module, IsModuleText, text_in, name_of, seen, imported_functions}

-- ---- the names of the program

-- the name of a function of a module
abbrev pub global_text : List ℕ → List ℕ → List ℕ
global_text f name =
    if bytes_eq f (codes "main") && bytes_eq name (codes "Main") then f
    else f ++ codes "'" ++ name

abbrev pub local_text : List ℕ → List ℕ
local_text x = if bytes_eq x (codes "_") then x else x ++ codes "'"

-- the module from which an imported function comes
abbrev pub import_home : Module → Option (Binder × Binder) → List ℕ
import_home m None = []
import_home m (Some i) = text_in m i.0.name.0

-- the name of the module of a function, which is declared or imported
abbrev pub home_module : Module → ℕ → List ℕ
home_module m g =
    if nat_lt g (length m.functions) then name_of m
    else import_home m (slice_get (imported_functions m) (g - length m.functions))

-- the name of what a name stands for
abbrev pub meaning_text : Module → List ℕ → Meaning → List ℕ
meaning_text m x (meaning.Local y) = local_text x
meaning_text m x (meaning.Function g params) = global_text x (home_module m g)
meaning_text m x (meaning.Primitive op) = x
meaning_text m x meaning.Unbound = x

abbrev pub use_text : Module → Scope → ℕ → List ℕ
use_text m s x = meaning_text m (text_in m x) (means (seen m) s x)

-- ---- the declarations of one module, renamed; these are the names of the program

module _ (names : List (List ℕ)) (m : Module) where
  abbrev pub Becomes : List ℕ → ℕ → Type 0
  Becomes text k = slice_get names k ≡ Some text

  abbrev pub LocalBecomes : ℕ → ℕ → Type 0
  LocalBecomes x = Becomes (local_text (text_in m x))

  abbrev pub ConBecomes : ℕ → ℕ → Type 0
  ConBecomes c = Becomes (text_in m c)

  abbrev pub UseBecomes : Scope → ℕ → ℕ → Type 0
  UseBecomes s x = Becomes (use_text m s x)

  abbrev pub GlobalBecomes : ℕ → ℕ → Type 0
  GlobalBecomes f = Becomes (global_text (text_in m f) (name_of m))

  -- the binders of the module enter its scope
  abbrev pub enter : List Binder → List Binder → Scope → Scope
  enter bs cs s = within (seen m) bs s

  abbrev pub ConstructorBecomes : Data → Data → Type 0
  ConstructorBecomes = RenamedData enter LocalBecomes ConBecomes UseBecomes

  abbrev pub FunctionBecomes : Function → Function → Type 0
  FunctionBecomes = RenamedFunction enter LocalBecomes ConBecomes UseBecomes GlobalBecomes []

-- ---- the union

-- each item with the module that it stands in
abbrev pub with_module : {X : Type 0} → (Module → List X) → List Module → List (Module × X)
with_module items ms = flat_map (λ m. map (λ x. (m, x)) (items m)) ms

abbrev pub IsStrictlySorted : List (List ℕ) → Type 0
IsStrictlySorted = IsStrictlySortedBy (slice_cmp nat_cmp)

-- The declarations are those of the modules, renamed, in the order of the bytes of the modules'
-- names, and each module's in its order.
pub record IsUnion (ms : List Module) (c : Program) : Type 0 where
  pub sorted : List Module
  pub all : (m : Module) → In m ms → In m sorted
  pub only : (m : Module) → In m sorted → In m ms
  pub rising : IsStrictlySorted (map name_of sorted)
  pub constructors : AllZip (λ d e. ConstructorBecomes c.names d.0 d.1 e)
      (with_module (λ m. m.constructors) sorted) c.constructors
  pub functions : AllZip (λ f g. FunctionBecomes c.names f.0 f.1 g)
      (with_module (λ m. m.functions) sorted) c.functions

-- the program that texts of modules are together
pub record IsLinked (texts : List (List ℕ)) (c : Program) : Type 0 where
  pub modules : List Module
  pub read : AllZip IsModuleText texts modules
  pub union : IsUnion modules c
