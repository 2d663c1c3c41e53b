-- What the exported functions' contracts cite.
pub mod Numbered
pub mod Plans
pub mod Maps
pub mod Searches
pub mod Runs
