-- The definitions that the contracts cite, and the laws on them.
pub mod ProverCode
pub mod Machine
pub mod Answers
pub mod Laws
pub mod Said
pub mod Conditions
pub mod Exactly
pub mod Examples
pub mod Kept
