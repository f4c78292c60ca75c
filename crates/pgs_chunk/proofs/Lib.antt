-- Laws of limits and of where a chunk ends.
pub mod Halves
pub mod Families
pub mod Lists
pub mod Cuts
pub mod Starts
pub mod Ends
pub mod Above
pub mod Early
pub mod Chunks
pub mod Ordered
pub mod Listings
pub mod Members
