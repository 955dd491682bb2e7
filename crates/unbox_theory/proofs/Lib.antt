pub mod Kept
pub mod Numbers
pub mod Simulated
pub mod Gives
pub mod Stays
pub mod Formed
