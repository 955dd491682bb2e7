pub mod Canonical
pub mod Depth
pub mod Renamed
pub mod Same
pub mod Laws
