-- Laws of the entries of a cycle set.
pub mod ChainLaws
pub mod PartLaws
pub mod LeadingLaws
pub mod CycleTestLaws
pub mod EntryLaws
