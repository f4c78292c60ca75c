-- How what was done is printed.
pub mod Words
pub mod Contexts
pub mod Ranges
pub mod Answers
pub mod Scrubs
pub mod Scans
pub mod Plans
pub mod Done
