pub mod Ends
pub mod Laws
pub mod Members
pub mod Unboxed
pub mod Unboxing
