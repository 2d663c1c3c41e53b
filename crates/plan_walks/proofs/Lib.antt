-- Lemmas over plain variables, which the functions' proofs cite.
pub mod Fixes
pub mod Entries
pub mod Dims
pub mod Queries
