-- The definitions that the contracts cite, and the laws on them.
pub mod Dimensions
pub mod Answers
pub mod Laws
pub mod Conditions
pub mod Exactly
pub mod Examples
