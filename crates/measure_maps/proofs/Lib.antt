-- By what the order of a map's entries is proved.
pub mod Turns
