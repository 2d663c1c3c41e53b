-- The constraint polynomial from bytes: what is answered, what stands after it, and that only one outcome fits.
pub mod Polynomial
pub mod Unique
pub mod Meant
