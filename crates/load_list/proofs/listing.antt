-- The rows of a column and what is taken into the list of some groups, which the functions and the laws of columns use.
pub mod Alike
pub mod Loop
pub mod Rows
pub mod Sparse
