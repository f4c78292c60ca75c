-- Lemmas on what calls read and write.
pub mod Pieces
