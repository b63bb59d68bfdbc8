-- What the definitions of an archive come to, in plain quantifiers; and the laws of its loops.
pub mod Order
pub mod Ranges
