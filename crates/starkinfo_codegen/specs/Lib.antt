-- The definitions that the contracts cite, and the laws on them that other crates use.
pub mod Words
pub mod Encoding
pub mod Operations
pub mod Sources
pub mod Counting
pub mod Roots
pub mod Plans
pub mod Emitting
pub mod Sizes
pub mod Making
pub mod Ordering
pub mod JobWords
pub mod Marked
pub mod Requests
pub mod Totals
