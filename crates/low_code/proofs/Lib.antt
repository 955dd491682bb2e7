pub mod TreeOf
pub mod Steady
pub mod MoreUnits
pub mod Limits
pub mod Worked
pub mod Sites
