pub mod Counts
pub mod Readings
pub mod Rules
pub mod Visits
pub mod Splits
