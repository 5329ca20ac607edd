-- Document 02, 1/12: an example of a device: what it is, and what it answers; and in Code what only the code needs.
pub mod Own
pub mod Device
pub mod Conversation
pub mod Code
