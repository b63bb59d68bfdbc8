-- The laws of this crate, a module each; the proof of a function stands in a folder of its name.
pub mod Swaps
pub mod Positions
pub mod Twice
pub mod Outputs
