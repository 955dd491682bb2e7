pub mod OpenUpdates
pub mod Tests
pub mod Bound
pub mod Mentions
pub mod Vectors
pub mod Walked
pub mod Collected
