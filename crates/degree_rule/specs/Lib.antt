-- The definitions that the contracts cite, and the laws on them that other crates use.
pub mod Tallies
pub mod Readings
pub mod Visiting
pub mod Laws
