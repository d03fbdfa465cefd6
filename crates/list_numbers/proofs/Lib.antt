-- Laws for the functions that judge the numbers of a list.
pub mod CountLaws
