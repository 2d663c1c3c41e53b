-- The definitions that the contracts cite, and the laws on them that other crates use.
pub mod Verdicts
pub mod Records
pub mod Walks
pub mod Laws
pub mod Conditions
pub mod Exactly
