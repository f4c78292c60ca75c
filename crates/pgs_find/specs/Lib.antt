-- The names of what a scrub finds.
pub mod ShardNames
pub mod ObjectNames
pub mod SnapNames
