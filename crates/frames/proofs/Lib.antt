-- Laws that the proofs of this crate's functions cite.
pub mod Tests
pub mod Takes
pub mod Loops
pub mod Digits
pub mod Texts
