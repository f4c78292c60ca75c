-- What a device holds, which of its calls fail, and what a call leaves of it.
pub mod Calls
pub mod Device
pub mod Reads
pub mod Ram
