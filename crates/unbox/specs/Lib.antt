pub mod Rounds
pub mod Ties
