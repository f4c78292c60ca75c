-- Entries are found by halves.
pub mod Found
pub mod Texts
