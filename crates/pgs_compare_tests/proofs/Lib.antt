-- What the tests' lists are.
pub mod Ascending
pub mod Alone
