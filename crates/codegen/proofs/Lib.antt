-- Lemmas over plain variables, which the functions' proofs cite.
pub mod Small
pub mod Commits
pub mod Ends
pub mod Coded
pub mod Serves
pub mod Judges
pub mod Builds
