-- Laws over plain variables, which the functions' proofs cite.
pub mod Passes
pub mod Segments
pub mod Refused
