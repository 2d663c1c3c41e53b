-- Both lists of the constraint polynomial and the frames of its pool: what is answered, and what stands after it.
pub mod Both
pub mod Committing
pub mod Making
