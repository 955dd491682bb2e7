-- a program: its tree, its size, and what Core is in it
pub mod Tree
pub mod Size
pub mod Plain
-- a text: its program, its rules, and which names are reserved in it
pub mod Grammar
pub mod Programs
pub mod Readable
pub mod Reserved
pub mod Laws
-- devices of the proofs
pub mod Machine
pub mod Code
pub mod Reads
pub mod AroundOf
pub mod Declaring
pub mod Reserving
