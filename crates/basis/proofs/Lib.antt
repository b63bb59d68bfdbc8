-- The laws of this crate, a module each; the proof of a function stands in a folder of its name.
pub mod Bools
pub mod Checks
pub mod Part
pub mod Integer
pub mod Cases
