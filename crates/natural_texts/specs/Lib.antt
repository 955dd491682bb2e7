pub mod Lambdas
pub mod Equations
pub mod Laws
