-- Lemmas over plain variables, which the functions' proofs cite.
pub mod Founds
pub mod Judges
