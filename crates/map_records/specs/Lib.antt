-- The definitions that the contracts cite, and the laws on them that other crates use.
pub mod Mapping
pub mod Tables
pub mod Sizes
pub mod Held
pub mod Agreed
pub mod All
