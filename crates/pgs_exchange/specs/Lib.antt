pub mod Encoded
pub mod Deposits
pub mod Checked
