-- Laws of groups.
pub mod Accepted
pub mod Admissions
pub mod Finds
pub mod Kept
pub mod Makes
pub mod Maps
pub mod Outcomes
pub mod Parking
pub mod Places
pub mod Scrubs
pub mod Used
pub mod Weighing
