-- What edits of a copy take from its bytes, and add to them.
pub mod Parts
pub mod Amounts
pub mod Growths
