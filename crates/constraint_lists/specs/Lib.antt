-- The definitions that the contracts cite, and the theorems on them.
pub mod Lists
pub mod Planned
pub mod Measuring
pub mod Writing
pub mod Meant
