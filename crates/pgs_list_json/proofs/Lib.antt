-- Lemmas on the lists.
pub mod Turns
pub mod Sorting
pub mod Tables
pub mod Floats
pub mod Digits
