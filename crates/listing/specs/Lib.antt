-- The definitions that the contracts cite.
pub mod Blamed
pub mod Printing
