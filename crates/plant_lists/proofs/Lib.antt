-- Laws of the list that says a plant.
pub mod NumberLaws
pub mod RowSaid
pub mod ListSays
pub mod ListLimits
pub mod ListOnly
pub mod ListLengths
pub mod ListLaws
pub mod RowLaws
pub mod KindLaws
pub mod BasicExamples
