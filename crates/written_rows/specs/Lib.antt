-- What the function that writes the rows of a machine ensures.
pub mod Steps
