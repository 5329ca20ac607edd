-- Document 01, 'Examples': a line of the dump, its writing into a buffer, the dump along a run of bytes, what all of it prints; and
-- in Code what only the code needs.
pub mod Text
pub mod Writing
pub mod Lines
pub mod Printed
pub mod Code
