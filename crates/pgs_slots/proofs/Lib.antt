-- Laws of slots and of the rows that hold them.
pub mod Positions
pub mod Told
pub mod Places
