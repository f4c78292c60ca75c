-- Laws of stores.
pub mod Puts
pub mod Filled
pub mod Nexts
