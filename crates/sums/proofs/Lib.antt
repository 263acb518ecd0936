-- Laws of the tree of sums. Assumes nothing.
pub mod Lowest
pub mod PartlyAdded
pub mod Summed
pub mod Exact
