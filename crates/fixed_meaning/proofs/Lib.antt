pub mod FixingLaws
pub mod OneToOne
pub mod ProvedFixed
pub mod Early
pub mod Listed
