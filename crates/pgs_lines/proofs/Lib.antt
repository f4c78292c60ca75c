-- Laws of lines.
pub mod Fronts
pub mod ChoiceLaws
pub mod ContextLaws
pub mod OpLaws
pub mod DamageLaws
pub mod LineLaws
