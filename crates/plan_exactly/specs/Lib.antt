-- The conditions, and the theorems on them.
pub mod Known
pub mod Numbers
pub mod Small
pub mod Fixing
pub mod Dimensions
pub mod Trees
pub mod Query
