-- Laws over plain variables, which the functions' proofs and the theorems cite.
pub mod Keys
pub mod Index
pub mod Chains
pub mod Arithmetic
pub mod Literals
pub mod Sections
pub mod Valued
