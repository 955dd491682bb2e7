pub mod Counted
pub mod Entered
pub mod Shares
pub mod Steps
