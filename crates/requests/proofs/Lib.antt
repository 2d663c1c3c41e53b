-- Lemmas over plain variables, which the functions' proofs cite.
pub mod Plans
pub mod Lasts
pub mod Makes
pub mod Places
pub mod Generates
pub mod Wholes
