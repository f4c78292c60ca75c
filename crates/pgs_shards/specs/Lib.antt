-- The members of a group, each with its history and its device.
pub mod Devices
pub mod Members
pub mod Applies
pub mod Damages
pub mod Listings
pub mod Scans
pub mod Whole
pub mod Kept
