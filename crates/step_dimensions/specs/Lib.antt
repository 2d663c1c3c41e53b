-- The definitions that the contracts cite, and the laws on them.
pub mod Rules
pub mod StepDimensions
pub mod Steps
pub mod Answers
pub mod Known
pub mod Laws
