-- Theorems on what the lists and the contexts after them stand for.
pub mod Bounds
pub mod Larger
pub mod Stood
pub mod Pieces
pub mod LastStep
pub mod Computes
