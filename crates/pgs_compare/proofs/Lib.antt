-- What the comparison is proved by.
pub mod AttrLaws
pub mod Turns
pub mod Others
pub mod ShardLaws
pub mod Choosing
pub mod FindingLaws
pub mod ReportLaws
