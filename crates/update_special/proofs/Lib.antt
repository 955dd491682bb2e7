pub mod Listed
pub mod Loops
pub mod Special
pub mod SameLeast
pub mod Contract
