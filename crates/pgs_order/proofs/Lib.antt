-- Laws of the order.
pub mod Lists
pub mod Keeps
pub mod Found
pub mod Stays
pub mod Powers
