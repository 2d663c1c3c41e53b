-- Laws over plain variables, which the functions' proofs cite.
pub mod Kinds
pub mod Sources
pub mod Steps
pub mod Known
pub mod Written
