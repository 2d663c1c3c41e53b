-- Lemmas over plain variables, which the functions' proofs cite.
pub mod Requested
pub mod Finals
pub mod Rooms
pub mod Coded
