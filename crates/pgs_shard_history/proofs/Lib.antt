-- Laws of histories.
pub mod Feeds
pub mod Laws
pub mod Positions
pub mod Scans
