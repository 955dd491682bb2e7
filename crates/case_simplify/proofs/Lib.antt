pub mod Statements
pub mod Held
pub mod Scoped
pub mod Knowing
pub mod Cases
pub mod Asked
pub mod Gives
pub mod Contract
