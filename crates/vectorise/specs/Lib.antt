pub mod Whole
pub mod Known
pub mod Vectors
pub mod Widened
