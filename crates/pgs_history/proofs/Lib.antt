-- Laws of a group's events.
pub mod Answered
pub mod Legal
pub mod New
pub mod Ids
pub mod Weighed
pub mod Held
pub mod Steps
pub mod Causes
pub mod Joined
pub mod Gates
pub mod Fates
pub mod Rows
