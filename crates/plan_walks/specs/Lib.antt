-- The definitions that the contracts cite, and the theorems on them.
pub mod Walks
pub mod Standing
pub mod Cms
pub mod Fix
pub mod Dimension
pub mod Query
