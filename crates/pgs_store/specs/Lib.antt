-- What a store holds, what effects and damage leave of it, and which copy comes next.
pub mod Stores
pub mod Kept
pub mod Firsts
