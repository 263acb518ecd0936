-- The definitions that the contracts of this crate and of the crates above it cite.
pub mod Below
pub mod BigEndian
pub mod Memory
pub mod RoundTrip
pub mod Text
