-- Laws of the archive's entries.
pub mod Laws
