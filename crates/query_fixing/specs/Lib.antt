-- The definitions that the contracts cite, and the laws on them.
pub mod QueryCode
pub mod QueryAnswers
pub mod Laws
pub mod QueryConditions
pub mod QueryExactly
