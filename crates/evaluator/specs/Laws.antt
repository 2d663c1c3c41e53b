-- Laws over plain variables, which the functions' proofs and the theorems cite.
pub mod Evaluates
pub mod ReadBack
pub mod Written
pub mod Rows
