pub mod Shown
pub mod Memory
pub mod Remembered
pub mod Unknown
pub mod Entries
