-- Laws of counts.
pub mod Counts
