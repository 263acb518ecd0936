-- Laws of comparing two samples. Assumes nothing.
pub mod Compared
