-- How values are spelled as words and read again.
pub mod Forms
pub mod Fields
pub mod Hex
