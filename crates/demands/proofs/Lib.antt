-- The proofs of all that is promised, from the theorems of the layers below.
pub mod Tables
pub mod Lowest
pub mod Windows
pub mod Farms
pub mod Witness
pub mod Marked
pub mod Steps
pub mod Calls
pub mod Cases
pub mod Arithmetic
pub mod Demands
