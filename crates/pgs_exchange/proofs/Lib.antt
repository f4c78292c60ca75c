pub mod Encoded
pub mod Lengths
pub mod Checked
pub mod Whole
