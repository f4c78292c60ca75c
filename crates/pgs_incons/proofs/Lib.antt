-- Lists by position that are cut at a range.
pub mod Lists
pub mod Ranges
pub mod Moves
pub mod Points
pub mod Turns
