-- Laws over plain variables, which the functions' proofs and the theorems cite.
pub mod Records
pub mod Runs
pub mod Holding
pub mod Simulation
pub mod Marks
pub mod Presence
pub mod Computes
