-- The lists of what a scrub found, as JSON.
pub mod Members
pub mod Object
pub mod Obj
pub mod Snap
