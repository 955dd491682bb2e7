pub mod Lowers
pub mod Translation
pub mod Lowered
pub mod Emitted
pub mod Groups
pub mod Ends
pub mod Writes
