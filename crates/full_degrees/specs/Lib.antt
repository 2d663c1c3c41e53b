-- The definitions that the contracts cite, and the laws on them that other crates use.
pub mod Coded
pub mod Shapes
pub mod Table
pub mod Parts
pub mod Filling
