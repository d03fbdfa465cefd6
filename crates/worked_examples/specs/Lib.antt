-- The starred worked examples: the files, and the table of what is said of them.
pub mod Files
pub mod Table
