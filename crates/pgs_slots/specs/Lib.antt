-- The slots of OSDs, and what claiming and releasing one does to them.
pub mod Slots
pub mod Rows
