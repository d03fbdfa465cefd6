-- Laws for the function that writes the rows of a machine.
pub mod RowsLaws
