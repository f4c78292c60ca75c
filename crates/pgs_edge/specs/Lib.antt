-- What the contracts of the ends cite.
pub mod Calls
pub mod Memory
pub mod Reading
pub mod Standard
