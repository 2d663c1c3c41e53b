-- Lemmas over plain variables, which the functions' proofs cite.
pub mod Listings
pub mod Extending
pub mod Readings
