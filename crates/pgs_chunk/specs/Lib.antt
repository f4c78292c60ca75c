-- Limits of chunks, and where a chunk ends.
pub mod Limits
pub mod Positions
pub mod Selection
pub mod Next
pub mod Chunk
pub mod Listings
