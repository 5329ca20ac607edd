-- Document 01, 'Packed text': a group, groups one behind another, crate mode, the characters that standard mode has, standard mode, and
-- text in either; and the Rust's own lines for crate mode.
pub mod Group
pub mod Groups
pub mod Text
pub mod Plain
pub mod Standard
pub mod Modes
pub mod Source
