-- The members of a set listed; the pool with the constraint as frames: what is answered to bytes, that reading them gives it, and that only one outcome fits.
pub mod Laws
pub mod Formed
pub mod Listing
pub mod Numbering
pub mod Extension
pub mod Backward
pub mod Unique
