pub mod Leads
pub mod Code
pub mod Data
pub mod Straight
pub mod Laws
pub mod Seen
pub mod Trace
