-- Lemmas over plain variables, which the functions' proofs cite.
pub mod Tells
pub mod Cells
pub mod Copies
pub mod Stores
