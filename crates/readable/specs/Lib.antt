-- The definitions that the contracts cite.
pub mod Binding
pub mod Trees
pub mod Blocks
