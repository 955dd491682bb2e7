-- The program with types that a text stands for, and the rules 1 to 5 for such texts.
use Rattle.std.specs.Prelude.{◌≡◌, ℕ, List, map}
use Rattle.core_reader.specs.declared.dialect.Dialect.TheVariants.{Types}
use Rattle.core_reader.specs.declared.refusal.ReadRefusal.{ReadRefusal}
use Rattle.core_reader.specs.Grammar.{NestingLimit}
use Rattle.core_reader.specs.TokensOf.{Piece}
use Rattle.core_reader.specs.WordsOf.{said}
use Rattle.core_reader.specs.NamesOf.{names_of}
use Rattle.core_reader.specs.ProgramsOf as any
use Rattle.core_reader.specs.RulesOf as rules
use Rattle.core_types.specs.Source.{Source}
use Rattle.core_types.specs.Grammar.{Decl, SpellsDecls, types_of, signatures_of, functions_of}

-- The grammar derives the program from the tokens, with as many open constructs as there is room
-- for.
pub record IsSource (room : NestingLimit) (s : Source) (pieces : List Piece) : Type 0 where
  pub names : s.names ≡ names_of Types pieces
  pub decls : List Decl
  pub types : types_of decls ≡ s.types
  pub signatures : signatures_of decls ≡ s.signatures
  pub functions : functions_of decls ≡ s.functions
  pub spelled : SpellsDecls room decls (map (said Types s.names) pieces)

-- The text stands for the program.
abbrev pub IsSourceText : List ℕ → Source → Type 0
IsSourceText = any.IsText Types IsSource

-- One of the rules 1 to 5 is broken at this place.
abbrev pub IsReadingFault : List ℕ → (k at : ℕ) → Type 0
IsReadingFault = rules.IsUnread Types IsSource

abbrev pub IsFirstReadingFault : List ℕ → (k at : ℕ) → Type 0
IsFirstReadingFault = rules.IsFirstUnread Types IsSource

abbrev pub IsReadCause : List ℕ → ReadRefusal → Type 0
IsReadCause = rules.IsCause Types IsSource

-- None of them is broken.
abbrev pub BreaksNoReadingRule : List ℕ → Type 0
BreaksNoReadingRule = rules.IsUnbroken Types IsSource
