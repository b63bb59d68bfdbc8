-- The laws of this crate, a module each; the proof of a function stands in a folder of its name.
pub mod Laws
pub mod Refusals
pub mod Cases
