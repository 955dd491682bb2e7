pub mod Decided
pub mod Laws
pub mod Raisable
pub mod Raised
pub mod Raising
