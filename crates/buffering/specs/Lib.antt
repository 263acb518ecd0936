-- What the figures say of a receiver that restores order, and the least buffer for a share of the first arrivals. Assumes nothing.
pub mod Restoring
pub mod Least
pub mod Private
