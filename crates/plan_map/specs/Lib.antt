-- The definitions that the contracts cite, and the theorems on them.
pub mod Numbers
pub mod Puts
pub mod Parts
pub mod Whole
pub mod Exactly
