-- Interleaved requests, in general. Above: isolation. Below: nothing.
pub mod Interleave
