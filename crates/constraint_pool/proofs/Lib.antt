-- Lemmas over plain variables, which the functions' proofs cite.
pub mod Trees
pub mod Joins
pub mod Loops
pub mod Measures
pub mod Verdicts
