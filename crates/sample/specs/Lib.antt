-- The sample file: what it is, what is refused and in which order, and what the calls leave. Assumes nothing.
pub mod Format
pub mod Judge
pub mod Decode
pub mod Places
pub mod Output
pub mod Calls
pub mod RoundTrip
pub mod Cases
pub mod Moved
pub mod Private
