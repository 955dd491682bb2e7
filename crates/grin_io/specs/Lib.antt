pub mod Causes
pub mod Content
pub mod Changes
pub mod Folder
pub mod Memory
