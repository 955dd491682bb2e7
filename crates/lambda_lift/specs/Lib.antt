-- a text with lambdas: its names, the free names of a lambda, and its lambdas in order
pub mod Headers
pub mod Free
pub mod Abstractions
-- the rules, and the lifted program
pub mod Rules
pub mod Lifted
-- which rule a refusal names
pub mod Refusal
-- what a text means without lifting, and the law
pub mod Meaning
pub mod Examples
pub mod Laws
-- devices of the proofs
pub mod Gathered
pub mod Broadest
pub mod Growing
pub mod Choosing
