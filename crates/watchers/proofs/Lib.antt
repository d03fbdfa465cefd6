-- Laws of opening.
pub mod OpeningLaws
