-- Laws of spellings.
pub mod Cuts
pub mod Fronts
pub mod Laws
pub mod FormLaws
pub mod KindLaws
pub mod FieldLaws
pub mod HexLaws
pub mod FrontLaws
