pub mod Forms
pub mod Places
pub mod Plans
pub mod Spots
pub mod Addresses
