pub mod Contract
pub mod Each
pub mod Fields
pub mod Rewritten
pub mod Sites
pub mod Judged
pub mod Chosen
