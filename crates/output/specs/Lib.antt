-- The definitions that the contracts cite, their laws, and the theorems that join the lines of records to those of steps.
pub mod Output
pub mod Runs
pub mod Records
pub mod Laws
pub mod Shown
pub mod Whole
