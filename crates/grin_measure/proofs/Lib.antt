pub mod Sums
mod Loops
mod Procs
