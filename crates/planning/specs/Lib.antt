-- The definitions that the contracts cite, and the theorems on them.
pub mod Planning
pub mod Answers
pub mod Drawn
pub mod Laws
pub mod Ways
pub mod Exactly
