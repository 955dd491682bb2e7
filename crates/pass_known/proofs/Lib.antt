pub mod Tells
pub mod Sound
pub mod Asked
pub mod Gives
pub mod Contract
pub mod Loops
pub mod Soles
pub mod Fitting
