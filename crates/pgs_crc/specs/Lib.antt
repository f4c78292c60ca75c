-- The digest of bytes, and the words that tables of it hold.
pub mod Digest
pub mod Table
