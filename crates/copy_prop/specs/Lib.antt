pub mod Copies
pub mod Resolved
pub mod Lean
pub mod Latest
pub mod Copied
