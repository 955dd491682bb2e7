mod Computed
-- names, and what they stand for
pub mod Fits
pub mod Texts
pub mod Fresh
pub mod Scopes
pub mod Matching
pub mod Standing
-- forms, groups, evaluation
pub mod AppliedForms
pub mod Flats
pub mod Groups
pub mod Environments
pub mod Simulated
pub mod Evaluated
pub mod Entered
-- the whole
pub mod Program
pub mod Whole
pub mod Kept
-- the code
pub mod Leaving
pub mod Folding
pub mod Gathers
pub mod Members
pub mod Grown
pub mod ByNames
pub mod Broadness
pub mod Judged
pub mod NewNames
pub mod Readably
pub mod Assembled
pub mod Answered
