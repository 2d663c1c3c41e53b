pub mod Replay
pub mod Constraints
pub mod Vectors
