pub mod Known
pub mod Choice
pub mod Chosen
pub mod Simple
pub mod Simplified
