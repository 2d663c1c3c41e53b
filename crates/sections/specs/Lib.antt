-- The definitions that the contracts cite, and the laws on them.
pub mod Sums
pub mod Sections
pub mod Answer
pub mod Groups
pub mod Exactly
pub mod Examples
