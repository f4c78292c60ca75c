-- What is wrong with the snapshots of objects.
pub mod Conditions
pub mod Check
pub mod Runs
