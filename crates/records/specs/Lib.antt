-- The definitions that the contracts cite, and the laws on them.
pub mod Records
pub mod Columns
pub mod Laws
pub mod Exactly
