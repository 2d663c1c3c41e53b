-- Laws on the definitions, which proofs here and theorems above use.
pub mod Argued
pub mod Drawn
pub mod Known
pub mod QTable
