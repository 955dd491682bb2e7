pub mod Picked
pub mod Narrow
pub mod NarrowBy
