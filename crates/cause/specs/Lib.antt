-- What a reader of this crate must believe: its definitions, a module each.
pub mod Answer
pub mod Cases
pub mod Fault
