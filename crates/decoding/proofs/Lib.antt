-- Laws of the reader, and of the decoded table.
pub mod TableLaws
pub mod RoomLaws
pub mod RowReadLaws
pub mod MachineReadLaws
pub mod MachinesReadLaws
pub mod PlantReadLaws
pub mod FirstRowLaws
pub mod StoreLaws
pub mod DecodedLaws
