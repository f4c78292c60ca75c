-- How a group is seen.
pub mod Counts
pub mod Given
pub mod Scrubbing
pub mod Tied
pub mod Steps
pub mod Weighed
