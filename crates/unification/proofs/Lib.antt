pub mod Basics
pub mod Values
pub mod Totals
pub mod Joins
pub mod Pairing
pub mod Walking
pub mod Solving
pub mod Writing
