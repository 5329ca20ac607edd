-- What bytes mean: digits of numbers, bits, the check of a frame, bytes put into a buffer, a part of a caller's memory, numbers as text;
-- and what stops the Rust over a slice of bytes.
pub mod Digits
pub mod Bit
pub mod Check
pub mod Put
pub mod Part
pub mod Figures
pub mod Source
