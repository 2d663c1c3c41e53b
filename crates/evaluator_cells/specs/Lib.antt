-- The definitions that the contracts cite, and the laws on them that other crates use.
pub mod Numbers
pub mod Given
pub mod Literals
pub mod Cells
pub mod Before
pub mod Keyed
pub mod Laws
