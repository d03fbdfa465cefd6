-- Laws of the entry of a cycle, and of the room for it.
pub mod EntryLaws
pub mod RoomLaws
