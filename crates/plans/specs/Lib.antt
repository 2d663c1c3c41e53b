-- The definitions that the contracts cite, and the laws on them that other crates use.
pub mod Plan
pub mod Every
pub mod Columns
pub mod Among
pub mod ColumnLaws
pub mod Counting
pub mod Agreement
pub mod Counts
pub mod Fails
pub mod Exactly
pub mod Passed
pub mod Places
pub mod Q2exp
