mod Lambdas
mod Equations
