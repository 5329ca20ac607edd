-- What the program `dump` does with the bytes that it reads.
pub mod Passing
