pub mod Truth
pub mod Order
pub mod Lists
pub mod Member
pub mod Counted
pub mod Results
pub mod Those
