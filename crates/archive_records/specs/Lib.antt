-- What an archive is, and where a farm's records lie in it. Above: the contracts of this crate and of archive. Below: a window's two numbers.
pub mod Records
