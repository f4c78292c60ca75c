-- Laws of logs.
pub mod Newer
pub mod Entries
pub mod Last
pub mod Numbered
