-- What the program `transmitter` does with the bytes that it reads.
pub mod Passing
