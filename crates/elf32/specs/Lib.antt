pub mod Image
pub mod File
pub mod Headers
pub mod Rules
pub mod Ends
