-- The proof of isolation.
pub mod Parts
pub mod Whole
pub mod Acts
pub mod Theorem
