pub mod Small
pub mod AreRows
