-- What the constraint polynomial means.
pub mod Tree
pub mod Constraint
pub mod Numbers
pub mod Ranks
pub mod Members
pub mod Sum
pub mod Closing
pub mod Runs
