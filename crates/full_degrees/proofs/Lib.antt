pub mod Codes
pub mod Nodes
