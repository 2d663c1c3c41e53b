pub mod Exact
pub mod ExactPolynomial
pub mod ExactPlans
pub mod ExactConstraint
