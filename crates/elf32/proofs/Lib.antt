pub mod HeaderLists
pub mod Overlaps
pub mod Chain
pub mod Loading
pub mod Written
