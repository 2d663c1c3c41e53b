-- Lemmas over plain variables, which the functions' proofs cite.
pub mod Reading
pub mod Fused
pub mod Planned
pub mod Bare
pub mod Leaves
pub mod Calls
pub mod Emits
pub mod Blocks
pub mod Outs
pub mod Kids
pub mod Orders
