-- The theorem that rests on definitions which a must-fail edit changes.
pub mod Demand3Plan
