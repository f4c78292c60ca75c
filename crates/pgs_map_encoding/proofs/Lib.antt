-- The laws of scrub maps as bytes: spelling and reading are inverse.
pub mod Chains
pub mod Bounds
pub mod Entries
pub mod Maps
pub mod Attrs
pub mod Joined
pub mod Spelled
