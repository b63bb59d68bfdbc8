-- The laws of this crate, a module each; the proof of a function stands in a folder of its name.
pub mod Rows
pub mod Steps
pub mod Decoding
pub mod Places
