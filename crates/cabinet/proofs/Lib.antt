-- Laws of the C interface.
pub mod StructLaws
pub mod StructBound
