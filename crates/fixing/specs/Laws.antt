pub mod Rules
pub mod Giving
pub mod Expressions
pub mod Tracks
pub mod Whole
pub mod Joined
