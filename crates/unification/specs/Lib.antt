-- terms, what is put for their variables, and solutions of equations between them
pub mod Trees
pub mod Terms
pub mod Solutions
-- what a solution's classes show
pub mod Shown
-- trees in a row
pub mod Pieces
-- devices of the proofs: classes, what is still to be joined, and the walk over classes
pub mod Classes
pub mod Walks
