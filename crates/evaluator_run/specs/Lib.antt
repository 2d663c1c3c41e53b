-- The definitions that the contracts cite, and the laws on them that other crates use.
pub mod Evaluation
pub mod Presence
pub mod Computing
pub mod Laws
