-- Lemmas over plain variables, which the functions' proofs cite.
pub mod Dims
pub mod Parts
pub mod Columns
pub mod Pairs
pub mod Alls
