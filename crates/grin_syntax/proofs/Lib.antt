pub mod TreeOf
pub mod Placed
pub mod Listed
pub mod Pieces
pub mod Past
pub mod Counted
pub mod Unbound
pub mod Scopes
