-- the translation
pub mod Tags
pub mod Blocks
pub mod Translation
-- laws
pub mod WellFormed
pub mod Same
-- devices of the proofs
pub mod Numbered
pub mod Pieces
pub mod Source
