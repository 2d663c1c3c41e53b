-- The definitions that the contracts cite, and the laws on them that other crates use.
pub mod Raw
pub mod RawOf
pub mod Starts
pub mod Marking
pub mod Flags
pub mod Numbered
pub mod Lists
pub mod Results
pub mod Copies
pub mod Held
