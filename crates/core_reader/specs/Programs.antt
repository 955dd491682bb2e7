-- The program that a text of Core stands for.
use Rattle.std.specs.Prelude.{◌≡◌, ℕ, List, map}
use Rattle.core_reader.specs.declared.dialect.Dialect.TheVariants.{Core}
use Rattle.core_reader.specs.Tree.{Program}
use Rattle.core_reader.specs.Tokens.{Piece}
use Rattle.core_reader.specs.Grammar.{NestingLimit, Decl, SpellsDecls, constructors_of, functions_of}
use Rattle.core_reader.specs.Words.{said}
use Rattle.core_reader.specs.Names.{names_of}
use Rattle.core_reader.specs.ProgramsOf as any

-- The grammar derives the program from the tokens, with as many open constructs as there is room
-- for.
pub record IsProgram (room : NestingLimit) (p : Program) (pieces : List Piece) : Type 0 where
  pub names : p.names ≡ names_of pieces
  pub decls : List Decl
  pub constructors : constructors_of decls ≡ p.constructors
  pub functions : functions_of decls ≡ p.functions
  pub spelled : SpellsDecls room decls (map (said p.names) pieces)

-- The text stands for the program: its longest-token reading gives tokens from which the grammar
-- derives it.
abbrev pub IsText : List ℕ → Program → Type 0
IsText = any.IsText Core IsProgram

-- Some tokens after these complete a program.
abbrev pub Viable : NestingLimit → List Piece → Type 0
Viable = any.Viable IsProgram
