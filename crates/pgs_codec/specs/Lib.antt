-- Fields of bytes: how values are spelled, and how they are read from the front of a text.
pub mod Reading
pub mod Fields
pub mod Ids
pub mod Answers
