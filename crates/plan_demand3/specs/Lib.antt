-- Demand 3 after fixing, from frames and a plan's bytes.
pub mod Low
pub mod Words
pub mod Rules
pub mod Conditions
pub mod Done
pub mod Demand3Plan
