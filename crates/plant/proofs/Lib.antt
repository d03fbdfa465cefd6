-- Laws of the file format and of its limits.
pub mod BasicExamples
pub mod Told
pub mod Gives
pub mod ByteLaws
pub mod TwinLaws
pub mod Bounds
pub mod Takes
pub mod FileBounds
pub mod FirstBytes
pub mod FileLaws
pub mod RowLaws
pub mod MachineLaws
pub mod MachineRows
pub mod PlantLaws
pub mod OneToOne
pub mod Exits
