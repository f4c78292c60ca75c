-- The laws of fields: spelling and reading are inverse.
pub mod Steps
pub mod Laws
pub mod Whole
pub mod IdLaws
pub mod Loop
