-- Lemmas over plain lists and numbers that the proofs cite.
pub mod Parts
pub mod Runs
