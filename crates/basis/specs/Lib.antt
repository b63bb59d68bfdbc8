-- What a reader of this crate must believe: its definitions and statements, a module each.
pub mod Bools
pub mod Checks
pub mod Part
pub mod Integer
pub mod Division
pub mod Cases
