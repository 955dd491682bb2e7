pub mod Vectors
pub mod Uses
pub mod OpenUpdates
pub mod Updated
