-- Laws over plain variables, which the functions' proofs and the theorems cite.
pub mod Placing
pub mod Tables
pub mod Maps
