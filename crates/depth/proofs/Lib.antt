-- The proof of the theorem on the order of a region.
pub mod Order
