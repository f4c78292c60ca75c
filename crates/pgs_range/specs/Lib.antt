-- Ranges of families, how they lie beside one another, and which position a listing gives next.
pub mod Ranges
pub mod Ends
pub mod Rows
pub mod Listed
