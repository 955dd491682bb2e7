-- A module, and the text that stands for it.
use Rattle.std.specs.Prelude.{◌≡◌, ℕ, ◌==◌, pos, Bool, true, false, not, ◌&&◌, List, [], ◌∷◌, ◌++◌, ◌⊎◌, map, slice_get}
use Rattle.std.specs.List.{flat_map, list_all, filter}
use Rattle.seq.specs.Lists.{or_empty}
use Rattle.core_reader.specs.declared.syntax.Binder.{Binder}
use Rattle.core_reader.specs.declared.dialect.Dialect.TheVariants.{Modules}
use Rattle.core_reader.specs.declared.refusal.ReadRefusal.{ReadRefusal}
use Rattle.core_reader.specs.declared.token.Token.TheVariants as word
use Rattle.core_reader.specs.declared.token.Further.TheVariants as further
use Rattle.core_reader.specs.declared.token.Lexeme.{Lexeme}
use Rattle.core_reader.specs.Bytes.{is_inner, is_upper}
use Rattle.core_reader.specs.Tree.{Data, Function, Program, App, Int, NoTerms}
use Rattle.core_reader.specs.Grammar.{NestingLimit, lexeme, Decl, SpellsDecls, constructors_of, functions_of}
use Rattle.core_reader.specs.TokensOf.{Piece}
use Rattle.core_reader.specs.WordsOf.{said}
use Rattle.core_reader.specs.NamesOf as names
use Rattle.core_reader.specs.ProgramsOf as any
use Rattle.core_reader.specs.RulesOf as rules

-- what is taken from another module: that module's name, and the names that are taken
pub record Import : Type 0 where
  pub from : Binder
  pub names : List Binder

-- A module. Each name in it is a number among its names.
pub record Module : Type 0 where
  pub names : List (List ℕ)
  pub name : Binder
  pub exports : List Binder
  pub imports : List Import
  pub constructors : List Data
  pub functions : List Function

-- what stands before the declarations of a module
pub record ModuleHeader : Type 0 where
  pub name : Binder
  pub exports : List Binder
  pub imports : List Import

abbrev pub module_header_of : Module → ModuleHeader
module_header_of m = record { name = m.name; exports = m.exports; imports = m.imports }

-- ---- the tokens of a module

-- the token of a name or a constructor
abbrev pub IsWord : Binder → Lexeme → Type 0
IsWord b t = (t ≡ lexeme b.at (word.Name b.name)) ⊎ (t ≡ lexeme b.at (word.Con b.name))

abbrev pub SpellsWords : List Binder → List Lexeme → Type 0
SpellsWords [] ts = ts ≡ []
SpellsWords (b ∷ bs) ts =
    (t : Lexeme) × (us : List Lexeme) × IsWord b t × SpellsWords bs us × (ts ≡ t ∷ us)

-- one after the other, each list behind `export` and before a `;`
abbrev pub SpellsLists : List (List Binder) → List Lexeme → Type 0
SpellsLists [] ts = ts ≡ []
SpellsLists (bs ∷ lists) ts =
    (p q : ℕ) × (us vs : List Lexeme) × SpellsWords bs us × SpellsLists lists vs
    × (ts ≡ lexeme p (word.Further further.Export) ∷ (us ++ (lexeme q word.Semicolon ∷ vs)))

abbrev pub SpellsExports : List Binder → List Lexeme → Type 0
SpellsExports bs ts =
    (lists : List (List Binder)) × (flat_map (λ l. l) lists ≡ bs) × SpellsLists lists ts

abbrev pub SpellsImports : List Import → List Lexeme → Type 0
SpellsImports [] ts = ts ≡ []
SpellsImports (i ∷ imports) ts =
    (p q : ℕ) × (us vs : List Lexeme) × SpellsWords i.names us × SpellsImports imports vs
    × (ts ≡ lexeme p (word.Further further.Import) ∷ lexeme i.from.at (word.Con i.from.name)
    ∷ (us ++ (lexeme q word.Semicolon ∷ vs)))

abbrev pub SpellsHead : ModuleHeader → List Lexeme → Type 0
SpellsHead h ts =
    (p q : ℕ) × (us vs : List Lexeme) × SpellsExports h.exports us × SpellsImports h.imports vs
    × (ts ≡ lexeme p (word.Further further.Module) ∷ lexeme h.name.at (word.Con h.name.name)
    ∷ lexeme q word.Semicolon ∷ (us ++ vs))

abbrev pub SpellsModule : NestingLimit → ModuleHeader × List Decl → List Lexeme → Type 0
SpellsModule room m ts =
    (us vs : List Lexeme) × SpellsHead m.0 us × SpellsDecls room m.1 vs × (ts ≡ us ++ vs)

-- The grammar derives the module from the tokens, with as many open constructs as there is room
-- for, whatever its name.
pub record IsSpelled (room : NestingLimit) (m : Module) (pieces : List Piece) : Type 0 where
  pub names : m.names ≡ names.names_of Modules pieces
  pub decls : List Decl
  pub constructors : constructors_of decls ≡ m.constructors
  pub functions : functions_of decls ≡ m.functions
  pub spelled : SpellsModule room (module_header_of m, decls) (map (said Modules m.names) pieces)

-- a letter or a digit
abbrev pub is_alphanumeric : ℕ → Bool
is_alphanumeric b = is_inner b && not (b == 95) && not (b == 39)

-- The second token, which is the module's name, has letters and digits alone.
abbrev pub IsNamedPlainly : List Piece → Type 0
IsNamedPlainly [] = ⊥
IsNamedPlainly (keyword ∷ []) = ⊥
IsNamedPlainly (keyword ∷ name ∷ pieces) = list_all is_alphanumeric name.bytes ≡ true

-- The grammar derives the module from the tokens.
pub record IsModule (room : NestingLimit) (m : Module) (pieces : List Piece) : Type 0 where
  pub spelled : IsSpelled room m pieces
  pub named : IsNamedPlainly pieces

-- The text stands for the module.
abbrev pub IsModuleText : List ℕ → Module → Type 0
IsModuleText = any.IsText Modules IsModule

-- ---- the rules 1 to 5, for texts of modules

abbrev pub IsReadingFault : List ℕ → (k at : ℕ) → Type 0
IsReadingFault = rules.IsUnread Modules IsModule

abbrev pub IsFirstReadingFault : List ℕ → (k at : ℕ) → Type 0
IsFirstReadingFault = rules.IsFirstUnread Modules IsModule

abbrev pub IsReadCause : List ℕ → ReadRefusal → Type 0
IsReadCause = rules.IsCause Modules IsModule

-- none of them is broken
abbrev pub BreaksNoReadingRule : List ℕ → Type 0
BreaksNoReadingRule = rules.IsUnbroken Modules IsModule

-- ---- what is known in a module

abbrev pub text_in : Module → ℕ → List ℕ
text_in m n = or_empty (slice_get m.names n)

abbrev pub name_of : Module → List ℕ
name_of m = text_in m m.name.name.0

-- the declarations of a module by themselves
abbrev pub body : Module → Program
body m = record { names = m.names; constructors = m.constructors; functions = m.functions }

-- each name that is imported, behind the name of the module that it comes from
abbrev pub imported : Module → List (Binder × Binder)
imported m = flat_map (λ i. map (λ b. (i.from, b)) i.names) m.imports

abbrev pub begins_upper : List ℕ → Bool
begins_upper [] = false
begins_upper (b ∷ bs) = is_upper b

abbrev pub is_constructor : Module → Binder → Bool
is_constructor m b = begins_upper (text_in m b.name.0)

abbrev pub imported_functions : Module → List (Binder × Binder)
imported_functions m = filter (λ i. not (is_constructor m i.1)) (imported m)

abbrev pub imported_constructors : Module → List (Binder × Binder)
imported_constructors m = filter (λ i. is_constructor m i.1) (imported m)

-- An imported name stands as a declaration of which only the name matters.
abbrev pub as_function : Binder × Binder → Function
as_function i = record {
  name = i.1.name.0;
  at = i.1.at;
  params = [];
  body = App (record { head = Int (pos 0) 0; args = NoTerms });
}

abbrev pub as_constructor : Binder × Binder → Data
as_constructor i = record { name = i.1.name.0; fields = 0; at = i.1.at }

-- the declarations of a module, and behind them what it imports
abbrev pub seen : Module → Program
seen m = record {
  names = m.names;
  constructors = m.constructors ++ map as_constructor (imported_constructors m);
  functions = m.functions ++ map as_function (imported_functions m);
}
