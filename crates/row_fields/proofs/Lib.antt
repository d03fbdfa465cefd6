-- Laws of the type fields.
pub mod TypeLaws
