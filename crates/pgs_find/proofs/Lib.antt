-- Sets of names by their bits.
pub mod Bits
pub mod ShardLaws
pub mod ObjectLaws
pub mod SnapLaws
