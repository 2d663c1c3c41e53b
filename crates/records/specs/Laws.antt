-- Laws over plain variables, which the functions' proofs cite.
pub mod Tests
pub mod Lists
pub mod Ends
