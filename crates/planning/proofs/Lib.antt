-- Lemmas over plain variables, which the functions' proofs cite.
pub mod Tables
pub mod There
pub mod Admitted
pub mod Shaped
pub mod Pooled
pub mod Readings
