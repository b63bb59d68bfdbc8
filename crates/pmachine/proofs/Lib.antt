-- Laws of the documented p-machine, for the layers above to cite in place of its text: ranges that a step keeps, runs that add up, what stays.
-- Above: code, machine, session and bench; below: specs/, and the laws of segment, operand and word.
pub mod Ranges
pub mod Rows
pub mod Decoded
pub mod Links
pub mod Pool
pub mod Judged
pub mod Runs
pub mod Keeps
pub mod Frame
pub mod Lowest
pub mod Places
pub mod Pushed
pub mod Accepted
