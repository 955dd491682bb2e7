pub mod Updated
pub mod Updates
pub mod Known
