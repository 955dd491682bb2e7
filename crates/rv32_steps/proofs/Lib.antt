pub mod Moves
pub mod Fetch
pub mod Words
pub mod Access
pub mod Control
pub mod Calls
pub mod Straight
pub mod Bytes
