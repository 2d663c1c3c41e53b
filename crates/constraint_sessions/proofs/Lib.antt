-- The theorems that rest on what a must-fail edit changes.
pub mod Step3
pub mod Both
