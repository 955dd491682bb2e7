pub mod Bound
pub mod Ascending
pub mod Numbered
pub mod Sets
pub mod Named
pub mod OneText
pub mod SameOrder
