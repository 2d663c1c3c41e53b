-- The definitions that the contracts cite, and the theorems on them.
pub mod Marks
pub mod Closed
pub mod Marking
pub mod Closing
