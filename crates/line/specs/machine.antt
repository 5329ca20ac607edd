-- What a decoder holds, what it does with a byte and answers, which values a run leads to, what is demanded of it, and which decoders that
-- excludes; and the Rust's own decoder.
pub mod Room
pub mod Frames
pub mod Step
pub mod Reachable
pub mod Feed
pub mod Demand
pub mod Excluded
pub mod Source
