pub mod Rewriting
pub mod Counted
pub mod InPlace
pub mod Expanding
pub mod Opening
pub mod WithFacts
pub mod ByWords
pub mod Table
