pub mod Reads
pub mod Staying
pub mod Without
pub mod Kept
pub mod Holding
pub mod Unread
pub mod Stored
