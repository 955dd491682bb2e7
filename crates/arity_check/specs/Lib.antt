-- programs in normal form, what a name stands for, and the normal form of a program
pub mod Program
pub mod Scope
pub mod Normal
-- the rules, each by what breaks it and where, and the order in which they are named
pub mod Standing
pub mod Pieces
pub mod Patterns
pub mod BinderLists
pub mod Broken
pub mod Order
pub mod Accepted
-- refusals, and which broken rule each of them names
pub mod Refusal
pub mod First
-- laws
pub mod Numbered
pub mod One
-- devices of the proofs: how the code keeps scopes and names, the broken rules as it meets them,
-- and what it builds
pub mod Locals
pub mod Trail
pub mod Known
pub mod Tables
pub mod Faults
pub mod SeenOf
pub mod Whole
pub mod Builds
pub mod Forms
