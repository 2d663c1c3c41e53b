-- The bytes that a pool is written as, and that reading them gives the pool.
pub mod Frames
pub mod Pools
pub mod Writable
