-- Laws of marks: as bits, and of dead ends.
pub mod MarkLaws
pub mod BitLaws
