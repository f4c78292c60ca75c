-- What the events of a group say.
pub mod Log
pub mod Members
pub mod Acting
pub mod Scrubs
pub mod Causes
pub mod Parked
pub mod Answers
pub mod Chunks
pub mod Findings
pub mod After
pub mod Legal
pub mod Joined
pub mod Facts
pub mod History
