-- Laws of the shortest file of a plant.
pub mod Remainders
pub mod RowReads
pub mod RowLengths
pub mod PlantParts
pub mod Readers
pub mod FileReads
pub mod FileLengths
pub mod BasicExamples
