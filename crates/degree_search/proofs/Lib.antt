pub mod Folds
pub mod Keeping
pub mod Choices
pub mod Questions
