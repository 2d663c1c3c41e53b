-- The definitions that the contracts cite, and the theorem on the whole transcript.
pub mod Concluding
pub mod Lines
pub mod Transcript
