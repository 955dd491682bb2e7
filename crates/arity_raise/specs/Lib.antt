pub mod Decision
pub mod Fixed
pub mod Deciding
