pub mod Fixing
pub mod Demand3Fixed
pub mod Renaming
pub mod FixingExamples
