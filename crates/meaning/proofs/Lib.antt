pub mod Laws
pub mod Exactly
pub mod Proved
