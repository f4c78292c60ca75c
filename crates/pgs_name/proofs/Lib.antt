-- Laws of the refusals of a name, of families, and of the order.
pub mod Named
pub mod Families
pub mod Turned
pub mod Pieces
pub mod Ordered
