-- How a scrub map is spelled and read.
pub mod Chains
pub mod Bounds
pub mod Entries
pub mod Maps
