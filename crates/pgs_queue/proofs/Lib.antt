-- Laws of jobs that wait.
pub mod Turns
pub mod Before
pub mod Picks
pub mod Kept
