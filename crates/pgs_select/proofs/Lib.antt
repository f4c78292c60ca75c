-- The laws of the choice.
pub mod Places
pub mod Ranks
pub mod BestLaws
pub mod Judgings
