pub mod Leaving
pub mod Course
pub mod Told
pub mod Placed
pub mod Flows
pub mod Laws
pub mod Pace
pub mod LastStep
