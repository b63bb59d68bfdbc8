-- The documented p-machine: definitions, and the statements of its laws. Above: code, plan and machine, which are proved to do the same; below: segment, operand, word.
pub mod State
pub mod Meaning
pub mod Opcode
pub mod Decoding
pub mod Pool
pub mod Step
pub mod Run
pub mod Sound
pub mod Kept
pub mod Lowest
pub mod Places
pub mod Pushed
