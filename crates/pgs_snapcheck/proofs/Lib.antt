-- Each position is held against those of its family, which stand beside it.
pub mod Lists
pub mod Cuts
pub mod Turns
pub mod Order
