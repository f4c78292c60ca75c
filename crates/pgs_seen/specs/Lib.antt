-- What the entries of a scan's map are, position by position.
pub mod Seen
