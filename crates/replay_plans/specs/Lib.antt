pub mod Replay
pub mod Walks
pub mod Vectors
