-- What every step of a script keeps.
pub mod Groups
pub mod Sound
pub mod Openings
pub mod Runs
