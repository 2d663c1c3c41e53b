-- The definitions that the contracts cite, and the laws on them that other crates use.
pub mod Records
pub mod Decoding
pub mod Laws
pub mod Parts
