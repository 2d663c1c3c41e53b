-- Lemmas over plain variables, which the functions' proofs cite.
pub mod Tests
pub mod Turns
pub mod Built
pub mod Results
