-- Lemmas over plain variables, which the functions' proofs cite.
pub mod Turns
pub mod Closes
