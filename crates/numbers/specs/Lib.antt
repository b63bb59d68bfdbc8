-- What a reader of this crate must believe: its definitions.
pub mod Numbers
