pub mod Alike
pub mod Slimness
pub mod Stages
