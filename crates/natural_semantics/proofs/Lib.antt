mod Derived
pub mod any
pub mod by_name
pub mod Performed
mod SameRelation
mod SameSticking
mod SamePrints
mod CoreSays
mod Told
