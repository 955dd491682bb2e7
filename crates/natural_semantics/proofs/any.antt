mod Sound
mod Complete
mod Sticking
mod Printed
mod Enough
pub mod Parts
pub mod OneAnswer
