-- Laws of counting: each row takes from the room what it adds to the entries.
pub mod BetweenLaws
pub mod CountingLaws
