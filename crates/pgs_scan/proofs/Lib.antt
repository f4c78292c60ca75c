-- Laws of reading a copy.
pub mod Parts
pub mod Steps
pub mod Keys
pub mod Tails
pub mod Calls
pub mod Fronts
pub mod Begun
pub mod Taking
pub mod Scans
