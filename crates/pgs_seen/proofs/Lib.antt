-- The entries of each scan that ended with a map are what was seen.
pub mod Seen
