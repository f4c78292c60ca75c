-- What texts of lines mean.
pub mod Grammar
pub mod Text
pub mod Verdict
