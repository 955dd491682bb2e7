pub mod Candidate
pub mod Filtered
pub mod Loops
pub mod Sums
