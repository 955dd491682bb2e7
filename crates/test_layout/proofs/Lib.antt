pub mod LongCase
pub mod Pieces
pub mod Placeable
