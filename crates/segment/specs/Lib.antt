-- What a reader of this crate must believe: its definitions and statements, a module each.
pub mod Head
pub mod Judge
pub mod Small
pub mod Refusals
