-- The laws of object infos.
pub mod Joined
pub mod FlagLaws
pub mod InfoLaws
