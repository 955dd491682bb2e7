pub mod Loops
pub mod Inside
pub mod Gives
pub mod Sizes
pub mod Formed
pub mod Simulated
pub mod Contract
