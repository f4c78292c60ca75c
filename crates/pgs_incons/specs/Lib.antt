-- What a scrub found.
pub mod Found
pub mod Kept
