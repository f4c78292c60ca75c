-- What a scan reads of one copy, step by step, and the entry that it makes of it.
pub mod Reads
pub mod Steps
pub mod Calls
pub mod Asked
pub mod Taken
pub mod Seen
