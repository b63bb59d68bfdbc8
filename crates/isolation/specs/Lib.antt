-- Isolation of sessions. Below: bench, interleave.
pub mod Isolation
