pub mod Ascending
pub mod Binders
pub mod FirstNames
pub mod Laws
pub mod Text
