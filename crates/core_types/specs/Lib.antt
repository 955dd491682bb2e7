-- a program with types, its text, the rules that it has to keep, and which broken rule is named
pub mod Source
pub mod Grammar
pub mod Text
pub mod Lists
pub mod Rules
pub mod Refused
-- types as constraints, and their solutions
pub mod Typing
pub mod Laws
pub mod Nodes
pub mod Instances
pub mod Bare
pub mod Sides
pub mod Shown
pub mod Building
-- what the code keeps, and devices of the proofs
pub mod SourceOf
pub mod Reading
pub mod Kept
pub mod Found
