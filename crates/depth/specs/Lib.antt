-- The definitions that the contracts of `depth` cite, and the theorem on them.
pub mod Depth
