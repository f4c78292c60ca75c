-- Laws of scripts.
pub mod Grammars
pub mod Spelled
