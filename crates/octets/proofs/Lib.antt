-- Laws of the definitions of specs/, for the proofs of this crate and of the crates above it.
pub mod Below
pub mod BigEndian
pub mod Memory
pub mod RoundTrip
pub mod Text
