-- The definitions that the contracts cite, and the theorems on them.
pub mod Said
pub mod Results
pub mod Written
pub mod Committing
pub mod Loads
pub mod Made
pub mod Pigeons
pub mod Serving
pub mod Building
pub mod Exactly
pub mod Sessions
pub mod Shadows
