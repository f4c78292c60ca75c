-- The laws of snapsets.
pub mod Joined
pub mod Copies
pub mod Newer
pub mod SnapSetLaws
