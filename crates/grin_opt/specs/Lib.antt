pub mod Several
pub mod Schedule
pub mod Staying
