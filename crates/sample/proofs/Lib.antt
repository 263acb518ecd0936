-- Laws of the definitions of specs/, for the proofs of this crate and of the crates above it.
pub mod Cases
pub mod Items
pub mod Readings
pub mod Shown
pub mod Writing
pub mod Decoded
pub mod Exact
pub mod RoundTrips
pub mod Output
pub mod Answers
pub mod Accepted
pub mod OfSample
pub mod Longer
pub mod Moved
pub mod Chunks
