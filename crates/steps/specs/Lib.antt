-- What a reader of this crate must believe: its definitions and statements, a module each.
pub mod Memory
