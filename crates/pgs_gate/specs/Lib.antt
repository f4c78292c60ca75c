-- What becomes of a client's write while a chunk is open, and the writes that wait for it to close.
pub mod Gate
pub mod Waits
