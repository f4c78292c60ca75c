-- What a write makes of the clean store, and when it is refused.
pub mod Heads
pub mod Effects
pub mod Held
pub mod Refusals
pub mod Rows
pub mod Clean
pub mod Made
