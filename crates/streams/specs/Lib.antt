-- What a program does with the bytes that it reads.
pub mod Passing
