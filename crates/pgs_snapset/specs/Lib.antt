-- What a snapset is: how it is spelled, which clone a write makes under it, and when it is well formed.
pub mod Spelling
pub mod Cloning
pub mod WellFormed
