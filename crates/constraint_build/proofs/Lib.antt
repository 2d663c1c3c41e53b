-- Lemmas over plain variables, which the functions' proofs cite.
pub mod Fits
pub mod Firsts
pub mod Seconds
