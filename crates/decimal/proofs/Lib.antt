-- Laws of the decimal digits, for the proofs of this crate and of those above it, and some numbers in decimal.
mod Cases
pub mod Laws
pub mod Backward
pub mod Leading
