-- What a shard's history says, and which events may follow one another. A history is a list of events, the newest first.
pub mod Feeds
pub mod Stores
pub mod Positions
pub mod Scanning
pub mod Scans
pub mod Held
pub mod Legal
pub mod Laws
