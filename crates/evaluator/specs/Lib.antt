-- The definitions that the contracts cite, and the laws on them that other crates use.
pub mod Answer
pub mod Laws
pub mod Exactly
pub mod Conditions
pub mod Computed
pub mod ComputedFixed
