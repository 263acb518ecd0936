-- The definitions of all figures, after RFC 4737, in the order of the scope. Assumes nothing.
pub mod Arrivals
pub mod Times
pub mod Order
pub mod Extent
pub mod Answer
pub mod Numbering
pub mod Gaps
pub mod Runs
pub mod Tally
pub mod Ratios
pub mod Needs
pub mod Cases
pub mod Refusals
pub mod Refused
pub mod Judge
pub mod Reordered
pub mod Moved
