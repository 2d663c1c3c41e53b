-- The choice of the constraint polynomial from frames and two contexts: what is answered, and what is left in the caller's tables.
pub mod Choosing
pub mod Below
