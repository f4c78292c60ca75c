-- What an object's name is, how one is refused, and the order of families and positions.
pub mod Bounds
pub mod Refusal
pub mod Families
pub mod Order
pub mod Positions
pub mod Total
