pub mod Verdicts
pub mod Records
pub mod Walks
pub mod Rewriting
pub mod Kept
