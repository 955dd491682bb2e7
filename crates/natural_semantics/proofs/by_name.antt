mod Related
mod Named
mod Steps
mod NeedToName
mod NameToNeed
mod NeverBoth
mod NamedSticking
mod NeededSticking
pub mod Printed
