pub mod Flat
pub mod Flattened
pub mod Rest
