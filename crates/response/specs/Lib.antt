-- Document 02, 1/12: what the fields of a response measure, one of them, a writer that puts them in turn, and a whole response.
pub mod Sizes
pub mod Field
pub mod Writer
pub mod Whole
