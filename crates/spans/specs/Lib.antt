-- The definitions that the contracts of `spans` cite.
pub mod Ends
pub mod Native
