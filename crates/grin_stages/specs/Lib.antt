pub mod Stage
pub mod Inlined
pub mod Analysed
