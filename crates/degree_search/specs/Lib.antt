-- The definitions that the contracts cite.
pub mod Candidates
pub mod Choosing
pub mod Searching
pub mod Unique
