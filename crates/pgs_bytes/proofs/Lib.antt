-- Facts that every crate may cite.
pub mod Facts
