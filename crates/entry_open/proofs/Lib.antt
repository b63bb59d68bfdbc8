-- Laws of the search for a record and for a gap. Above: this crate's functions, promises. Below: the definitions of `entry`.
pub mod Lowest
