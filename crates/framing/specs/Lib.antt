-- The Rust's own lines of the encoder; what a decoder by value does and what is demanded of it; what it makes of what the encoder wrote; what
-- a response carries and what a device reads of a request, and from the bytes of a line to what a command reads; and in Code what only
-- the code needs.
pub mod Source
pub mod Feed
pub mod Demand
pub mod RoundTrip
pub mod Payload
pub mod Requests
pub mod Responses
pub mod Bench
pub mod Code
