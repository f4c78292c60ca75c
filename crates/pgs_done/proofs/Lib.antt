-- Words as they are appended.
pub mod Marked
pub mod Held
pub mod Behind
