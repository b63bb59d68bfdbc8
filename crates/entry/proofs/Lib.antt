-- Laws that the proofs of every entry cite: what a list of checks comes to, and the guard. Above: the entries' crates, promises. Below: specs.
pub mod Refusing
pub mod Starts
