-- Which tokens a text of equations is written with, one clause for each production.
use Rattle.std.specs.Prelude.{◌≡◌, ℕ, suc, Bool, true, List, [], ◌∷◌, ◌++◌, ◌⊎◌, map}
use Rattle.core_reader.specs.declared.syntax.Binder.{Binder}
use Rattle.core_reader.specs.declared.dialect.Dialect.TheVariants.{Core}
use Rattle.core_reader.specs.declared.token.Token.TheVariants as word
use Rattle.core_reader.specs.declared.token.Lexeme.{Lexeme}
use Rattle.core_reader.specs.declared.refusal.ReadRefusal.{ReadRefusal}
use Rattle.core_reader.specs.Tree.{Data}
use Rattle.core_reader.specs.Grammar.{NestingLimit, lexeme, name_id, SpellsExpr}
use Rattle.core_reader.specs.Grammar as core
use Rattle.core_reader.specs.TokensOf.{Piece}
use Rattle.core_reader.specs.WordsOf.{said}
use Rattle.core_reader.specs.NamesOf.{names_of}
use Rattle.core_reader.specs.ProgramsOf as any
use Rattle.core_reader.specs.RulesOf as rules
use Rattle.match_compile.specs.Source.{Pat, Name, Int, Con, Pats, NoPats, AndPat, Equation, Source}

-- a constructor that stands without a bracket, and so without patterns for fields
abbrev pub IsUnbracketed : Binder → Pats → List Lexeme → Type 0
IsUnbracketed c NoPats ts = ts ≡ lexeme c.at (word.Con c.name) ∷ []
IsUnbracketed c (AndPat p ps) ts = ⊥

abbrev mutual
  -- The tokens of a pattern where so many brackets are open.
  pub SpellsPat : NestingLimit → ℕ → Pat → List Lexeme → Type 0
  SpellsPat room depth (Name b) ts = ts ≡ lexeme b.at (word.Name b.name) ∷ []
  SpellsPat room depth (Int k at) ts = (minus : Bool) × (ts ≡ lexeme at (word.Number minus k) ∷ [])
  SpellsPat room depth (Con c ps) ts =
      IsUnbracketed c ps ts
      ⊎ ((us : List Lexeme) × (p q : ℕ) × (room depth ≡ true) × SpellsPats room (suc depth) ps us
      × (ts ≡ lexeme p word.Open ∷ lexeme c.at (word.Con c.name)
      ∷ (us ++ lexeme q word.Close ∷ [])))

  pub SpellsPats : NestingLimit → ℕ → Pats → List Lexeme → Type 0
  SpellsPats room depth NoPats ts = ts ≡ []
  SpellsPats room depth (AndPat p ps) ts =
      (us vs : List Lexeme) × SpellsPat room depth p us × SpellsPats room depth ps vs
      × (ts ≡ us ++ vs)

abbrev pub SpellsEquation : NestingLimit → Equation → List Lexeme → Type 0
SpellsEquation room e ts =
    (p q : ℕ) × (us vs : List Lexeme) × SpellsPats room 0 e.pats us × SpellsExpr room 0 e.body vs
    × (ts ≡ lexeme e.at (word.Name (name_id e.name))
    ∷ (us ++ (lexeme p word.Equals ∷ (vs ++ lexeme q word.Semicolon ∷ []))))

-- a declaration of a constructor, or an equation
pub data Decl : Type 0 where
  Declares : Data → Decl
  Equates : Equation → Decl

abbrev pub SpellsDecl : NestingLimit → Decl → List Lexeme → Type 0
SpellsDecl room (Declares d) ts = core.SpellsDecl room (core.Declares d) ts
SpellsDecl room (Equates e) ts = SpellsEquation room e ts

abbrev pub SpellsDecls : NestingLimit → List Decl → List Lexeme → Type 0
SpellsDecls room [] ts = ts ≡ []
SpellsDecls room (d ∷ ds) ts =
    (us vs : List Lexeme) × SpellsDecl room d us × SpellsDecls room ds vs × (ts ≡ us ++ vs)

-- the constructors and the equations among declarations, each in text order
abbrev pub constructors_of : List Decl → List Data
constructors_of [] = []
constructors_of (Declares d ∷ ds) = d ∷ constructors_of ds
constructors_of (Equates e ∷ ds) = constructors_of ds

abbrev pub equations_of : List Decl → List Equation
equations_of [] = []
equations_of (Declares d ∷ ds) = equations_of ds
equations_of (Equates e ∷ ds) = e ∷ equations_of ds

-- The grammar derives the equations from the tokens, with as many open constructs as there is room
-- for.
pub record IsSource (room : NestingLimit) (c : Source) (pieces : List Piece) : Type 0 where
  pub names : c.names ≡ names_of Core pieces
  pub decls : List Decl
  pub constructors : constructors_of decls ≡ c.constructors
  pub equations : equations_of decls ≡ c.equations
  pub spelled : SpellsDecls room decls (map (said Core c.names) pieces)

-- The text stands for the equations.
abbrev pub IsSourceText : List ℕ → Source → Type 0
IsSourceText = any.IsText Core IsSource

-- ---- the rules 1 to 5, for texts of equations

abbrev pub IsReadingFault : List ℕ → (k at : ℕ) → Type 0
IsReadingFault = rules.IsUnread Core IsSource

abbrev pub IsReadCause : List ℕ → ReadRefusal → Type 0
IsReadCause = rules.IsCause Core IsSource

-- none of them is broken
abbrev pub BreaksNoReadingRule : List ℕ → Type 0
BreaksNoReadingRule = rules.IsUnbroken Core IsSource
