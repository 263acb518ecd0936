-- The total of disorder of a sample. Assumes nothing.
pub mod Disorder
pub mod Sample
pub mod Private
