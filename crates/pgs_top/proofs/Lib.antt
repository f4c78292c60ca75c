-- Laws of what the program does.
pub mod Dues
pub mod Lines
pub mod Maps
pub mod Openings
pub mod Words
pub mod Worlds
