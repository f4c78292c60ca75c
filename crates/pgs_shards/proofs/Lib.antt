-- Laws of the members' histories and devices.
pub mod Called
pub mod Members
pub mod Applies
pub mod Damages
pub mod Lists
pub mod Next
pub mod Scans
pub mod Told
pub mod Whole
pub mod Places
