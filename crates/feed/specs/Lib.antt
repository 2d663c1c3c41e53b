-- The definitions that the contracts cite, and the laws on them that other crates use.
pub mod Feeding
pub mod Laws
pub mod Long
