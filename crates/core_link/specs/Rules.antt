-- The rules that texts of modules have to keep, and which broken rule is named.
use Rattle.std.specs.Prelude.{◌≡◌, ℕ, ◌<◌, ◌⊎◌, ◌==◌, List, [], ◌∷◌, Option, Some, None, slice_get, codes, if◌then◌else◌}
use Rattle.std.specs.List.{AllZip, find}
use Rattle.std.specs.Str.{bytes_eq}
use Rattle.core_reader.specs.declared.syntax.Binder.{Binder}
use Rattle.core_reader.specs.Tree.{Data, Function}
use Rattle.arity_check.specs.Broken as program
use Rattle.core_link.specs.declared.refusal.LinkRefusal.{LinkRefusal}
use Rattle.core_link.specs.declared.refusal.LinkKind.{LinkKind}
use Rattle.core_link.specs.declared.refusal.LinkKind.TheVariants as kind
use Rattle.core_link.specs.Module.{Module, Import, IsModuleText, IsReadingFault, text_in, name_of, body, seen, imported}

-- a function or a constructor of this name is declared in the module
pub data IsDeclared (m : Module) (name : ℕ) : Type 0 where
  AsFunction : {f : Function} (i : ℕ) → slice_get m.functions i ≡ Some f → f.name ≡ name
      → IsDeclared m name
  AsConstructor : {d : Data} (i : ℕ) → slice_get m.constructors i ≡ Some d → d.name ≡ name
      → IsDeclared m name

-- ---- the rules of a module by itself

-- rule k is broken at a place of the module
pub data BreaksOwnRule (m : Module) : (k at : ℕ) → Type 0 where
  ReservedName : {at : ℕ} → program.Broken (body m) 22 at → BreaksOwnRule m 22 at
  ExportUnknown : {b : Binder} (i : ℕ) → slice_get m.exports i ≡ Some b
      → (IsDeclared m b.name.0 → ⊥) → BreaksOwnRule m 55 b.at
  AgainConstructor : {at : ℕ} → program.Broken (body m) 11 at → BreaksOwnRule m 58 at
  AgainFunction : {at : ℕ} → program.Broken (body m) 12 at → BreaksOwnRule m 58 at

-- ---- the rules between modules

-- the first module of this name
abbrev pub module_named : List Module → List ℕ → Option Module
module_named ms name = find (λ m. bytes_eq (name_of m) name) ms

-- the module that an import names
abbrev pub source : List Module → Module → Binder → Option Module
source ms m from = module_named ms (text_in m from.name.0)

pub record IsExported (m : Module) (name : List ℕ) : Type 0 where
  pub number : ℕ
  pub export : Binder
  pub is : slice_get m.exports number ≡ Some export
  pub same : text_in m export.name.0 ≡ name

-- the import has this place among all names that the module imports
abbrev pub IsImported : Module → ℕ → Binder × Binder → Type 0
IsImported m i x = slice_get (imported m) i ≡ Some x

-- the name was imported before this place, or is declared in the module
pub data NameIsTaken (m : Module) (i : ℕ) (b : Binder) : Type 0 where
  Before : {x : Binder × Binder} (j : ℕ) → j < i → IsImported m j x → x.1.name.0 ≡ b.name.0
      → NameIsTaken m i b
  Declared : IsDeclared m b.name.0 → NameIsTaken m i b

pub record DeclaresMain (m : Module) : Type 0 where
  pub named : name_of m ≡ codes "Main"
  pub number : ℕ
  pub function : Function
  pub is : slice_get m.functions number ≡ Some function
  pub main : text_in m function.name ≡ codes "main"

-- rule k is broken at a place of a file, with regard to the other files
pub data BreaksInterModuleRule (ms : List Module) : (k file at : ℕ) → Type 0 where
  DuplicateModule : {m other : Module} {i j : ℕ} → slice_get ms i ≡ Some m
      → slice_get ms j ≡ Some other → j < i → name_of other ≡ name_of m
      → BreaksInterModuleRule ms 52 i m.name.at
  UnknownModule : {m : Module} {i : ℕ} {x : Import} (n : ℕ) → slice_get ms i ≡ Some m
      → slice_get m.imports n ≡ Some x → source ms m x.from ≡ None
      → BreaksInterModuleRule ms 53 i x.from.at
  NotExported : {m other : Module} {i : ℕ} {x : Binder × Binder} (n : ℕ)
      → slice_get ms i ≡ Some m → IsImported m n x → source ms m x.0 ≡ Some other
      → (IsExported other (text_in m x.1.name.0) → ⊥) → BreaksInterModuleRule ms 54 i x.1.at
  DuplicateImport : {m : Module} {i : ℕ} {x : Binder × Binder} (n : ℕ) → slice_get ms i ≡ Some m
      → IsImported m n x → NameIsTaken m n x.1 → BreaksInterModuleRule ms 56 i x.1.at
  UnknownName : {m : Module} {i at : ℕ} → slice_get ms i ≡ Some m
      → program.Broken (seen m) 14 at → BreaksInterModuleRule ms 57 i at
  AgainElsewhere : {m other : Module} {i j : ℕ} {c d : Data} (n k : ℕ) → slice_get ms i ≡ Some m
      → slice_get ms j ≡ Some other → j < i → slice_get m.constructors n ≡ Some d
      → slice_get other.constructors k ≡ Some c → text_in other c.name ≡ text_in m d.name
      → BreaksInterModuleRule ms 58 i d.at

abbrev pub LacksMain : List Module → Type 0
LacksMain ms = (i : ℕ) (m : Module) → slice_get ms i ≡ Some m → DeclaresMain m → ⊥

-- ---- all of them

-- What a broken rule is about: the reading of one file, the declarations of one file, the lack of a
-- `main`, or several files.
pub data RuleGroup : Type 0 where
  Reading : RuleGroup
  OwnRule : RuleGroup
  Main : RuleGroup
  Files : RuleGroup

-- rule k is broken at a place of a text, whatever other texts there are
pub data BrokenIn (text : List ℕ) : RuleGroup → (k at : ℕ) → Type 0 where
  Unread : {k at : ℕ} → IsReadingFault text k at → BrokenIn text Reading k at
  OfModule : (m : Module) {k at : ℕ} → IsModuleText text m → BreaksOwnRule m k at
      → BrokenIn text OwnRule k at

-- rule k is broken at a place of a file
pub data Broken (texts : List (List ℕ)) : RuleGroup → (k file at : ℕ) → Type 0 where
  InFile : {text : List ℕ} {g : RuleGroup} {k file at : ℕ} → slice_get texts file ≡ Some text
      → BrokenIn text g k at → Broken texts g k file at
  NoMainModule : (ms : List Module) → AllZip IsModuleText texts ms → LacksMain ms
      → Broken texts Main 59 0 0
  OfFiles : (ms : List Module) {k file at : ℕ} → AllZip IsModuleText texts ms
      → BreaksInterModuleRule ms k file at → Broken texts Files k file at

-- no rule is broken
abbrev pub IsUnbroken : List (List ℕ) → Type 0
IsUnbroken texts = (g : RuleGroup) (k file at : ℕ) → Broken texts g k file at → ⊥

-- ---- which of them is named

-- in a text rule 5 comes before the others on reading, and these before its own rules; then by
-- place, and at one place by number
abbrev pub rank_in : RuleGroup → (k at : ℕ) → List ℕ
rank_in Reading k at = (if k == 5 then 0 else 1) ∷ at ∷ k ∷ []
rank_in OwnRule k at = 2 ∷ at ∷ k ∷ []
rank_in group k at = []

abbrev pub rank : RuleGroup → (k file at : ℕ) → List ℕ
rank Reading k file at = 0 ∷ file ∷ rank_in Reading k at
rank OwnRule k file at = 0 ∷ file ∷ rank_in OwnRule k at
rank Main k file at = 1 ∷ []
rank Files k file at = 2 ∷ file ∷ at ∷ k ∷ []

-- One is not after the other, the first number by which they differ being the one that counts.
abbrev pub IsBefore : List ℕ → List ℕ → Type 0
IsBefore [] bs = Unit {0}
IsBefore (a ∷ as') [] = ⊥
IsBefore (a ∷ as') (b ∷ bs) = (a < b) ⊎ ((a ≡ b) × IsBefore as' bs)

-- Rule k is broken at a place of a text, and no rule before it, whatever other texts there are.
pub record IsFirstIn (text : List ℕ) (k at : ℕ) : Type 0 where
  pub group : RuleGroup
  pub broken : BrokenIn text group k at
  pub first : (g : RuleGroup) (k' at' : ℕ) → BrokenIn text g k' at'
      → IsBefore (rank_in group k at) (rank_in g k' at')

-- no rule is broken in the text
abbrev pub IsSound : List ℕ → Type 0
IsSound text = (g : RuleGroup) (k at : ℕ) → BrokenIn text g k at → ⊥

-- Rule k is broken at a place of a file, and no broken rule comes before it.
pub record IsFirstBroken (texts : List (List ℕ)) (k file at : ℕ) : Type 0 where
  pub group : RuleGroup
  pub broken : Broken texts group k file at
  pub first : (g : RuleGroup) (k' file' at' : ℕ) → Broken texts g k' file' at'
      → IsBefore (rank group k file at) (rank g k' file' at')

-- ---- refusals

-- the rule and the place that a refusal names; want of memory names none
abbrev pub rule_of : LinkKind → Option (ℕ × ℕ)
rule_of (kind.BadByte at) = Some (1, at)
rule_of (kind.Syntax at) = Some (2, at)
rule_of (kind.NumberRange at) = Some (3, at)
rule_of (kind.TooDeep at) = Some (4, at)
rule_of (kind.TextTooLong at) = Some (5, at)
rule_of (kind.ReservedName at) = Some (22, at)
rule_of (kind.DuplicateModule at) = Some (52, at)
rule_of (kind.UnknownModule at) = Some (53, at)
rule_of (kind.NotExported at) = Some (54, at)
rule_of (kind.ExportUnknown at) = Some (55, at)
rule_of (kind.DuplicateImport at) = Some (56, at)
rule_of (kind.UnknownName at) = Some (57, at)
rule_of (kind.DuplicateDeclaration at) = Some (58, at)
rule_of (kind.NoMainModule at) = Some (59, at)
rule_of (kind.Memory e) = None

-- the rule is so, or the file is 0 where none is named
abbrev pub IsNamed : (ℕ → ℕ → Type 0) → ℕ → Option (ℕ × ℕ) → Type 0
IsNamed First file None = file ≡ 0
IsNamed First file (Some f) = First f.0 f.1

abbrev pub IsCause : List (List ℕ) → LinkRefusal → Type 0
IsCause texts r = IsNamed (λ k at. IsFirstBroken texts k r.file at) r.file (rule_of r.kind)

-- the same of one text, which is the file of this number
abbrev pub IsCauseIn : List ℕ → ℕ → LinkRefusal → Type 0
IsCauseIn text file r =
    IsNamed (λ k at. (r.file ≡ file) × IsFirstIn text k at) r.file (rule_of r.kind)
