-- What the steps of a script do to a placement group, and what then holds.
pub mod State
pub mod Naming
pub mod Said
pub mod Repeats
pub mod Basics
pub mod Scrubs
pub mod Admissions
pub mod Lists
pub mod Sweeps
pub mod Steps
pub mod Counts
pub mod Acknowledged
pub mod Cited
pub mod Versions
pub mod Compared
pub mod Sound
pub mod Scrubbed
