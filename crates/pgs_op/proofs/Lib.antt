-- Laws of the refusals, and of what a store would hold.
pub mod Refusals
pub mod Touching
pub mod HeldLaws
pub mod Growing
