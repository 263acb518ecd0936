-- The comparison that the program prints. Assumes nothing.
pub mod Standing
