-- the types of a program in normal form
pub mod Judgement
-- the types of a heap, and laws
pub mod Heaps
pub mod SourceTypes
pub mod Laws
