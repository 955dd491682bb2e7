pub mod Applied
pub mod Known
