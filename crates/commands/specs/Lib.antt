-- Document 01, 'Commands': an identity, commands 11, 18 and 9, what a measured value is worth, and beside each the Rust's own lines for
-- it, in the files named Source; and document 02, 1/12: commands 0 and 13, a device's readings of requests and its responses.
pub mod Identity
pub mod IdentitySource
pub mod Tag
pub mod TagSource
pub mod TagDescriptorDate
pub mod TagDescriptorDateSource
pub mod ReadSource
pub mod Variables
pub mod VariablesSource
pub mod Worth
pub mod Responses
pub mod Code
