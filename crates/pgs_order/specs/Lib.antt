-- Scripts and their order.
pub mod Order
pub mod Ordered
