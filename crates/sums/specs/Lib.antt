-- A Fenwick tree of sums. Assumes nothing.
pub mod Tree
