-- The proofs of the promises.
pub mod Kept
pub mod Zeros
pub mod Openings
pub mod Closings
pub mod Requests
