pub mod Unlimited
pub mod SearchExactly
pub mod SearchCases
