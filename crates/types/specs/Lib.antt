-- Document 01, 'Wire layout': the delimiter, the first byte of an address, a whole address read and written; and the Rust's lines of the
-- response status.
pub mod Delimiter
pub mod First
pub mod Address
pub mod StatusSource
