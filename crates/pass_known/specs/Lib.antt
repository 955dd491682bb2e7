pub mod Told
pub mod Needed
pub mod Known
pub mod KnownWords
pub mod Telling
