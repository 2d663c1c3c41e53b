-- What the degree search means.
pub mod Degrees
pub mod Levels
pub mod Search
pub mod Fold
pub mod SearchExamples
