-- Logs of items.
pub mod Logs
pub mod Kept
