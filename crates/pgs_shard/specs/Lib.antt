-- How a shard is seen, what it answers, and what its calls leave of its device.
pub mod Answers
pub mod Listed
pub mod Scan
pub mod Scans
pub mod Steps
pub mod State
