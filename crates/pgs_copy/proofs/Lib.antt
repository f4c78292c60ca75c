-- Laws of effects and damage.
pub mod Cutting
pub mod Laws
pub mod PairLaws
pub mod Places
pub mod SizeLaws
