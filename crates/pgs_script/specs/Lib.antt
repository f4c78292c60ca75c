-- The grammar of scripts.
pub use Rattle.pgs_texts.specs.Text
pub mod Script
