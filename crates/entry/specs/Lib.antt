-- What the entries of a bench answer and leave. Above: a crate for each entry, and what is promised of them. Below: sound.
pub mod Answer
pub mod Entries
