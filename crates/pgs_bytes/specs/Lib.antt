-- What texts of bytes are made of, and what edits leave of them.
pub mod Texts
pub mod Edits
