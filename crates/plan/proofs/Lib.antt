-- The laws of this crate, a module each; the proof of a function stands in a folder of its name.
pub mod Links
pub mod Meanings
pub mod Pools
pub mod Decodes
pub mod Arms
