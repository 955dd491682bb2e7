-- equations, the text that stands for them, and the rules that they have to keep
pub mod Source
pub mod Grammar
pub mod Parts
pub mod Heads
pub mod Rules
-- equations that have a meaning, their size, their normal form, and what they put out
pub mod Sound
pub mod Sizes
pub mod Form
pub mod ByEquations
pub mod Stays
pub mod Jobs
pub mod Within
pub mod Alike
pub mod Decides
-- the trees of tests that equations become
pub mod Trees
pub mod Decisions
pub mod Renamed
pub mod Translated
pub mod OneFunction
pub mod Translates
-- what holds of all equations that were read, and what laws ask of equations
pub mod Readable
pub mod Premises
-- examples
pub mod Examples
-- laws
pub mod Laws
-- what the code keeps, and devices of the proofs
pub mod SourceOf
pub mod RowOf
pub mod TreeOf
pub mod Known
pub mod DecisionOf
pub mod WordsOf
pub mod ApartOf
pub mod NamesOf
pub mod EmissionOf
pub mod Reading
pub mod Refusal
pub mod Faults
