pub mod Met
pub mod Known
