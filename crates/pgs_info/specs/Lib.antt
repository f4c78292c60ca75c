-- How an object info is spelled and read.
pub mod Flags
pub mod Info
