-- The constraint's nodes after those of a pool, what the functions ask and give, and that the pool with them stands for the extended forest.
pub mod Nodes
pub mod Asked
pub mod Copies
pub mod Whole
pub mod Lists
pub mod Fine
pub mod Extended
pub mod Forest
pub mod Added
pub mod Sizes
pub mod Judging
pub mod Extending
