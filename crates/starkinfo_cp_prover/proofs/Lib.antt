-- Lemmas over plain variables, which the functions' proofs cite.
pub mod Entries
pub mod Lists
