-- The theorems that rest on definitions which a must-fail edit changes.
pub mod Useless
