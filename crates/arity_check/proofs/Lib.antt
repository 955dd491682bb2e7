pub mod Counted
pub mod Weight
mod Derived
pub mod Numbers
mod Single
mod Snoc
pub mod Counts
pub mod Unique
mod Steps
pub mod Names
mod Noted
mod Apps
mod Exprs
mod Patterns
mod Tests
mod Soundness
mod Least
pub mod Building
pub mod Rows
mod Scopes
pub mod TermOf
mod Normals
mod Finish
mod Exists
mod Excluded
pub mod Flats
pub mod NoFaults
