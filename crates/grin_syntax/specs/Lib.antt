pub mod Tree
pub mod Binders
pub mod Tags
pub mod Formed
pub mod Fresh
pub mod SameOutside
pub mod Listing
pub mod Statements
