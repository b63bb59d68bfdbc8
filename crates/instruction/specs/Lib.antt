-- What a reader of this crate must believe: its definitions and statements, a module each.
pub mod Standing
pub mod Decodes
pub mod Parts
pub mod Targets
pub mod Recorded
