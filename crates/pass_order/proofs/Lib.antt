pub mod Moved
pub mod SameCase
pub mod Kept
pub mod Formed
pub mod Sides
pub mod Gives
pub mod Contract
pub mod Loops
