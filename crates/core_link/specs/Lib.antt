-- modules, the rules that they have to keep, and the program that they are together
pub mod Module
pub mod Rules
pub mod Union
-- laws
pub mod Laws
-- what the code keeps, and devices of the proofs
pub mod Found
pub mod Bound
pub mod ModuleOf
pub mod Heading
pub mod Renaming
pub mod Joinable
pub mod Shared
