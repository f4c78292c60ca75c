-- What the program keeps and writes.
pub mod Opening
pub mod Histories
pub mod Output
pub mod Ends
