-- The order of fragments, after RFC 4737, Appendix B: the definitions that contracts cite.
pub mod Pieces
pub mod Order
pub mod Usable
pub mod Judge
pub mod Calls
pub mod Whole
pub mod Cases
pub mod Private
pub mod Places
pub mod Arrivals
