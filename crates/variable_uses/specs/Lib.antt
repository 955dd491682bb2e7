pub mod Uses
pub mod Stands
