pub mod Document
pub mod Surprises
pub mod Edges
pub mod Small
pub mod Fused
pub mod Random
