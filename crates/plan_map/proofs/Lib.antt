-- Lemmas that the functions' proofs cite.
pub mod Putting
pub mod Placing
pub mod Tabling
pub mod Answering
