-- The definitions that the contracts cite, and the empty set.
pub mod Members
pub mod Empty
