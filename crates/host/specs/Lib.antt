-- Document 01, 'For the C host': the bits of a block's header, the record, the two calls, the third demand on them; and in Code what only the code
-- needs.
pub mod Bits
pub mod Header
pub mod Record
pub mod Block
pub mod Demand
pub mod Code
