pub mod Parts
pub mod Numbers
pub mod Commands
pub mod Walk
pub mod Grammar
pub mod Laws
