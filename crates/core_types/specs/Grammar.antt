-- Which tokens a program with types is written with, one clause for each production.
use Rattle.std.specs.Prelude.{◌≡◌, ℕ, suc, true, List, [], ◌∷◌, ◌++◌}
use Rattle.core_reader.specs.declared.syntax.Binder.{Binder}
use Rattle.core_reader.specs.declared.token.Token.{Token}
use Rattle.core_reader.specs.declared.token.Token.TheVariants as word
use Rattle.core_reader.specs.declared.token.Further.TheVariants as further
use Rattle.core_reader.specs.declared.token.Lexeme.{Lexeme}
use Rattle.core_reader.specs.Tree.{Function}
use Rattle.core_reader.specs.Grammar.{NestingLimit, lexeme, binders, SpellsExpr}
use Rattle.core_reader.specs.Grammar as core
use Rattle.core_types.specs.Source.{Written, WrittenTypes, Var, Named, Arrow, NoTypes, AndType, Constructor, TypeDecl, Signature}

abbrev pub IsNonemptyTypes : WrittenTypes → Type 0
IsNonemptyTypes NoTypes = ⊥
IsNonemptyTypes (AndType t ts) = Unit {0}

-- the token of a name, and of a constructor or a type
abbrev pub name_at : Binder → Lexeme
name_at b = lexeme b.at (word.Name b.name)

abbrev pub con_at : Binder → Lexeme
con_at b = lexeme b.at (word.Con b.name)

mutual
  -- The tokens of a type of one piece where so many constructs are open.
  pub data SpellsType (room : NestingLimit) : ℕ → Written → List Lexeme → Type 0 where
    Variable : (depth : ℕ) (b : Binder) → SpellsType room depth (Var b) (name_at b ∷ [])
    Constant : (depth : ℕ) (b : Binder) → SpellsType room depth (Named b NoTypes) (con_at b ∷ [])
    Bracket : (depth p q : ℕ) (t : Written) (us ts : List Lexeme) → room depth ≡ true
        → SpellsInner room (suc depth) t us
        → ts ≡ lexeme p word.Open ∷ (us ++ lexeme q word.Close ∷ []) → SpellsType room depth t ts

  -- The same in brackets, which hold one piece, a type with arguments, or one arrow.
  pub data SpellsInner (room : NestingLimit) : ℕ → Written → List Lexeme → Type 0 where
    Alone : (depth : ℕ) (t : Written) (ts : List Lexeme) → SpellsType room depth t ts
        → SpellsInner room depth t ts
    Applied : (depth : ℕ) (b : Binder) (args : WrittenTypes) (us : List Lexeme)
        → IsNonemptyTypes args
        → SpellsTypes room depth args us → SpellsInner room depth (Named b args) (con_at b ∷ us)
    OneArrow : (depth p : ℕ) (t u : Written) (us vs ts : List Lexeme)
        → SpellsType room depth t us → SpellsType room depth u vs
        → ts ≡ us ++ (lexeme p word.Arrow ∷ vs) → SpellsInner room depth (Arrow t u) ts

  -- types of one piece, one after the other
  pub data SpellsTypes (room : NestingLimit) : ℕ → WrittenTypes → List Lexeme → Type 0 where
    None : (depth : ℕ) → SpellsTypes room depth NoTypes []
    More : (depth : ℕ) (t : Written) (rest : WrittenTypes) (us vs ts : List Lexeme)
        → SpellsType room depth t us → SpellsTypes room depth rest vs → ts ≡ us ++ vs
        → SpellsTypes room depth (AndType t rest) ts

abbrev pub bar : Token
bar = word.Further further.Bar

abbrev pub SpellsConstructor : NestingLimit → Constructor → List Lexeme → Type 0
SpellsConstructor room c ts =
    (us : List Lexeme) × SpellsTypes room 0 c.fields us × (ts ≡ con_at c.name ∷ us)

-- Before the first constructor stands this sign, before each further one a `|`.
abbrev pub SpellsConstructors : NestingLimit → Token → List Constructor → List Lexeme → Type 0
SpellsConstructors room sign [] ts = ts ≡ []
SpellsConstructors room sign (c ∷ cs) ts =
    (p : ℕ) × (us vs : List Lexeme) × SpellsConstructor room c us
    × SpellsConstructors room bar cs vs × (ts ≡ lexeme p sign ∷ (us ++ vs))

abbrev pub IsNonemptyConstructors : List Constructor → Type 0
IsNonemptyConstructors [] = ⊥
IsNonemptyConstructors (c ∷ cs) = Unit {0}

abbrev pub SpellsTypeDecl : NestingLimit → TypeDecl → List Lexeme → Type 0
SpellsTypeDecl room d ts =
    (p q : ℕ) × (us : List Lexeme) × IsNonemptyConstructors d.constructors
    × SpellsConstructors room word.Equals d.constructors us
    × (ts ≡ lexeme p (word.Further further.TypeDecl) ∷ con_at d.name
    ∷ (binders d.params ++ (us ++ lexeme q word.Semicolon ∷ [])))

-- types, each before an arrow
abbrev pub SpellsArgumentTypes : NestingLimit → WrittenTypes → List Lexeme → Type 0
SpellsArgumentTypes room NoTypes ts = ts ≡ []
SpellsArgumentTypes room (AndType t rest) ts =
    (p : ℕ) × (us vs : List Lexeme) × SpellsType room 0 t us × SpellsArgumentTypes room rest vs
    × (ts ≡ us ++ (lexeme p word.Arrow ∷ vs))

abbrev pub SpellsSignature : NestingLimit → Signature → List Lexeme → Type 0
SpellsSignature room s ts =
    (p q r : ℕ) × (us vs : List Lexeme) × SpellsArgumentTypes room s.args us
    × SpellsType room 0 s.result vs
    × (ts ≡ lexeme p (word.Further further.Signature) ∷ name_at s.function
    ∷ lexeme q (word.Further further.Colon) ∷ (us ++ (vs ++ lexeme r word.Semicolon ∷ [])))

-- a declaration of a type, of a function's type, or of a function
pub data Decl : Type 0 where
  Declares : TypeDecl → Decl
  Signs : Signature → Decl
  Defines : Function → Decl

abbrev pub SpellsDecl : NestingLimit → Decl → List Lexeme → Type 0
SpellsDecl room (Declares d) ts = SpellsTypeDecl room d ts
SpellsDecl room (Signs s) ts = SpellsSignature room s ts
SpellsDecl room (Defines f) ts = core.SpellsDecl room (core.Defines f) ts

-- the tokens of declarations, one after the other
abbrev pub SpellsDecls : NestingLimit → List Decl → List Lexeme → Type 0
SpellsDecls room [] ts = ts ≡ []
SpellsDecls room (d ∷ ds) ts =
    (us vs : List Lexeme) × SpellsDecl room d us × SpellsDecls room ds vs × (ts ≡ us ++ vs)

-- each kind of declaration, in text order
abbrev pub types_of : List Decl → List TypeDecl
types_of [] = []
types_of (Declares d ∷ ds) = d ∷ types_of ds
types_of (d ∷ ds) = types_of ds

abbrev pub signatures_of : List Decl → List Signature
signatures_of [] = []
signatures_of (Signs s ∷ ds) = s ∷ signatures_of ds
signatures_of (d ∷ ds) = signatures_of ds

abbrev pub functions_of : List Decl → List Function
functions_of [] = []
functions_of (Defines f ∷ ds) = f ∷ functions_of ds
functions_of (d ∷ ds) = functions_of ds
