-- The definitions that the contracts cite, and the laws on them that other crates use.
pub mod Entries
pub mod Context
pub mod Tables
pub mod Zeros
pub mod Stored
pub mod Held
