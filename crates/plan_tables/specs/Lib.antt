-- The definitions that the contracts cite, and the laws on them that other crates use.
pub mod Tables
pub mod Listed
pub mod Sectioned
pub mod Bounds
pub mod Gathered
pub mod Cells
pub mod Rules
pub mod Records
pub mod Sizes
pub mod Whole
pub mod Readings
