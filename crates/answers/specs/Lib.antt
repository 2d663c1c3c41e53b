-- What the exported functions answer: the ways to each number, that a number comes exactly by its ways, and that a list is its bytes.
pub mod Ways
pub mod ConstraintWays
pub mod PolynomialWays
pub mod Numbers
pub mod ListBytes
