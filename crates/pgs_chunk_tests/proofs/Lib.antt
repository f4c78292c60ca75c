-- Lists of clones ascend.
pub mod Pushes
