-- What the summary program prints. Assumes nothing.
pub mod Shown
