-- How the lines of a script are spelled.
pub mod Payload
pub mod Choices
pub mod Contexts
pub mod Objects
pub mod Damages
pub mod Basics
pub mod Steps
pub mod Lines
