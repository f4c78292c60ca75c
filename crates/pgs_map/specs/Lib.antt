-- Entries of stored copies.
pub mod Digests
pub mod Entries
