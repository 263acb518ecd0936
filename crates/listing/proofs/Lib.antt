-- Laws of the lines and of the listing, for the proofs of this crate and of those above it.
pub mod Example
mod Parts
mod Fours
pub mod Lengths
pub mod Records
