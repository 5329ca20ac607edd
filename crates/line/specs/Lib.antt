-- What a line of bytes means: the layout of a frame, the pieces of a run, what they dictate, what is asked of a machine that is fed, and how
-- a frame is written.
-- Below machine: what a decoder holds and does.
pub mod Layout
pub mod Pieces
pub mod Events
pub mod Runs
pub mod Encode
pub mod machine
