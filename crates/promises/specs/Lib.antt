-- The page that an auditor reads: statements about the exported functions, each a citation or a short corollary.
pub mod OneList
pub mod OneOutcome
pub mod Unchanged
pub mod Rows
pub mod Gives
pub mod Demand3
pub mod Evaluated
pub mod Chain
pub mod Examples
pub mod Sample
pub mod Useless
