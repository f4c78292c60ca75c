-- What a copy tells of itself.
pub mod Facts
