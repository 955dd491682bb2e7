pub mod Pieces
pub mod Alternatives
pub mod Spread
