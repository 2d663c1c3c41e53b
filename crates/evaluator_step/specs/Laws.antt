-- Laws over plain variables, which the functions' proofs and the theorems cite.
pub mod Kinds
pub mod Steps
