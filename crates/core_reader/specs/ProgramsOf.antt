-- What a text stands for in any language over the tokens of a dialect. A language is given by its
-- grammar: which tokens spell a thing, with as many open constructs as there is room for.
use Rattle.std.specs.Prelude.{ℕ, List, ◌++◌}
use Rattle.core_reader.specs.declared.dialect.Dialect.{Dialect}
use Rattle.core_reader.specs.TokensOf.{Piece, IsTokens}
use Rattle.core_reader.specs.Grammar.{NestingLimit, unlimited_nesting}

abbrev pub Language : Type 0 → Type 1
Language P = NestingLimit → P → List Piece → Type 0

-- The text stands for the thing: its longest-token reading gives tokens from which the grammar
-- derives it.
pub record IsText {P : Type 0} (d : Dialect) (Derives : Language P) (text : List ℕ) (p : P)
    : Type 0 where
  pub pieces : List Piece
  pub tokens : IsTokens d text pieces
  pub program : Derives unlimited_nesting p pieces

-- Some tokens after these complete a thing that the grammar derives.
pub record Viable {P : Type 0} (Derives : Language P) (room : NestingLimit) (pieces : List Piece)
    : Type 0 where
  pub rest : List Piece
  pub whole : P
  pub is_program : Derives room whole (pieces ++ rest)
