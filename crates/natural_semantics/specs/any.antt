pub mod Moves
pub mod Natural
pub mod Stuck
pub mod Prints
pub mod Laws
