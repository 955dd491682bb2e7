-- how a command ends
pub mod Over
pub mod Statuses
pub mod Telling
-- files, and outputs in pieces
pub mod Reading
pub mod Operands
pub mod Putting
-- what is made of a text and put
pub mod Writing
-- the commands
pub mod Text
pub mod Checking
pub mod Printing
pub mod Rereading
pub mod Linking
pub mod Lifting
pub mod Matching
pub mod Typing
