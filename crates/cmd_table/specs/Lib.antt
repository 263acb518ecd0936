-- What the program prints. Assumes nothing.
pub mod Shown
