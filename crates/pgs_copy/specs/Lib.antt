-- What effects and damage do to the copies of a family.
pub mod Copies
pub mod Pairs
pub mod InPlace
pub mod Sizes
