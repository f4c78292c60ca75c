-- Laws of bounds and ranges.
pub mod Ends
pub mod Tiles
pub mod Rows
