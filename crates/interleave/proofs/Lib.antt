-- The proof of the theorem on interleaved requests.
pub mod Parties
pub mod Interleave
