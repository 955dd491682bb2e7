-- The program that a text of Core with lambdas and local functions stands for, and the rules 1 to 5
-- of it.
use Rattle.std.specs.Prelude.{◌≡◌, ℕ, pos, true, false, List, [], ◌∷◌, ◌++◌, map}
use Rattle.core_reader.specs.declared.dialect.Dialect.TheVariants.{Lambdas}
use Rattle.core_reader.specs.declared.token.Token.TheVariants as word
use Rattle.core_reader.specs.declared.token.Lexeme.{Lexeme}
use Rattle.core_reader.specs.declared.refusal.ReadRefusal.{ReadRefusal}
use Rattle.core_reader.specs.Tree.{Data}
use Rattle.core_reader.specs.Grammar.{NestingLimit, lexeme, name_id, binders}
use Rattle.lambda_reader.specs.Tree.{Function, Program}
use Rattle.lambda_reader.specs.Grammar.{SpellsExpr}
use Rattle.core_reader.specs.TokensOf.{Piece}
use Rattle.core_reader.specs.WordsOf.{said}
use Rattle.core_reader.specs.NamesOf.{names_of}
use Rattle.core_reader.specs.ProgramsOf as any
use Rattle.core_reader.specs.RulesOf as rules

-- a declaration of a constructor or a function
pub data Decl : Type 0 where
  Declares : Data → Decl
  Defines : Function → Decl

abbrev pub SpellsDecl : NestingLimit → Decl → List Lexeme → Type 0
SpellsDecl room (Declares d) ts =
    (p q r : ℕ)
    × (ts ≡ lexeme p word.Data ∷ lexeme d.at (word.Con (name_id d.name))
    ∷ lexeme q (word.Number false (pos d.fields)) ∷ lexeme r word.Semicolon ∷ [])
SpellsDecl room (Defines f) ts =
    (p q : ℕ) × (us : List Lexeme) × SpellsExpr true room 0 f.body us
    × (ts ≡ lexeme f.at (word.Name (name_id f.name))
    ∷ (binders f.params ++ (lexeme p word.Equals ∷ (us ++ lexeme q word.Semicolon ∷ []))))

-- the tokens of declarations, one after the other
abbrev pub SpellsDecls : NestingLimit → List Decl → List Lexeme → Type 0
SpellsDecls room [] ts = ts ≡ []
SpellsDecls room (d ∷ ds) ts =
    (us vs : List Lexeme) × SpellsDecl room d us × SpellsDecls room ds vs × (ts ≡ us ++ vs)

-- the constructors and the functions among declarations, each in text order
abbrev pub constructors_of : List Decl → List Data
constructors_of [] = []
constructors_of (Declares d ∷ ds) = d ∷ constructors_of ds
constructors_of (Defines f ∷ ds) = constructors_of ds

abbrev pub functions_of : List Decl → List Function
functions_of [] = []
functions_of (Declares d ∷ ds) = functions_of ds
functions_of (Defines f ∷ ds) = f ∷ functions_of ds

-- The grammar derives the program from the tokens, with as many open constructs as there is room
-- for.
pub record IsProgram (room : NestingLimit) (p : Program) (pieces : List Piece) : Type 0 where
  pub names : p.names ≡ names_of Lambdas pieces
  pub decls : List Decl
  pub constructors : constructors_of decls ≡ p.constructors
  pub functions : functions_of decls ≡ p.functions
  pub spelled : SpellsDecls room decls (map (said Lambdas p.names) pieces)

abbrev pub IsSourceText : List ℕ → Program → Type 0
IsSourceText = any.IsText Lambdas IsProgram

-- rule k, of 1 to 5, is broken at this place, or none of them
abbrev pub IsReadingFault : List ℕ → (k at : ℕ) → Type 0
IsReadingFault = rules.IsUnread Lambdas IsProgram

abbrev pub IsFirstReadingFault : List ℕ → (k at : ℕ) → Type 0
IsFirstReadingFault = rules.IsFirstUnread Lambdas IsProgram

abbrev pub BreaksNoReadingRule : List ℕ → Type 0
BreaksNoReadingRule = rules.IsUnbroken Lambdas IsProgram

-- the rule and the place that a refusal names
abbrev pub IsUnreadCause : List ℕ → ReadRefusal → Type 0
IsUnreadCause = rules.IsCause Lambdas IsProgram
