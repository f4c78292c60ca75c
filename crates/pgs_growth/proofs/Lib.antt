-- Laws of edits of different parts of a copy.
pub mod Entries
pub mod Lengths
pub mod PairSizes
pub mod PartLaws
pub mod GrowthLaws
