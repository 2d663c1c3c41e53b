-- Lemmas over plain variables, which the functions' proofs cite.
pub mod Summed
pub mod Growing
pub mod Filled
pub mod Named
pub mod Ruled
pub mod Copied
pub mod Treed
pub mod Placed
