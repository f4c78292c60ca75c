-- The errors of one copy, and which copy is chosen.
pub mod Errors
pub mod Choice
pub mod Judging
pub mod Best
