-- The laws of this crate; the proof of a function stands in a folder of its name.
pub mod Values
