mod Computed
mod Enough
mod Longer
mod Steady
mod Lookups
pub mod Shared
pub mod Meanings
pub mod Valid
