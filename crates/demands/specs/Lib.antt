-- Everything that is promised: read Demands first; the others are the longer statements that it names. Below: every layer.
pub mod Demands
pub mod Cases
pub mod Arithmetic
pub mod Marked
pub mod Witness
