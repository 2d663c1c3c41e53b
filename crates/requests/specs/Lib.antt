-- The definitions that the contracts cite, and the laws on them that other crates use.
pub mod Planning
pub mod Making
pub mod Jobs
pub mod Last
pub mod Placing
pub mod Generating
pub mod Whole
pub mod Admitted
pub mod Runs
pub mod Reads
pub mod Serving
pub mod Demand3
pub mod Exactly
