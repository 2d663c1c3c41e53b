pub mod Document
pub mod Surprises
pub mod Edges
pub mod Orders
pub mod Limits
pub mod Random
pub mod Constraint
