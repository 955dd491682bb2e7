-- The numbers of the names of Core.
use Rattle.std.specs.Prelude.{List, fold}
use Rattle.core_reader.specs.declared.dialect.Dialect.TheVariants.{Core}
use Rattle.core_reader.specs.Tokens.{Piece}
use Rattle.core_reader.specs.Names.{with_piece}
use Rattle.core_reader.proofs.NamingOf as any
pub use Rattle.core_reader.proofs.NamingOf.{Texts}

abbrev pub EachHeld : Texts → List Piece → Type 0
EachHeld = any.EachHeld Core

pub each_held : (names : Texts) (ps : List Piece) → EachHeld (fold with_piece names ps) ps
each_held names ps = any.each_held Core names ps
