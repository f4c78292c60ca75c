-- A shard stays tied to its history.
pub mod Ties
pub mod Listings
pub mod Sizes
pub mod Sums
pub mod Steps
pub mod Copies
