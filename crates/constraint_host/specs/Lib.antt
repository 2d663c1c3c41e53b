-- What the exported functions' contracts cite, and what they say.
pub mod Numbered
pub mod Whole
pub mod Exactly
