-- Laws of texts of lines.
pub mod Turns
pub mod Meaning
