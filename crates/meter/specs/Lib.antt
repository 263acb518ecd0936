-- The meter's rule: two streams that share the places of their kept jumps, after request 6. Assumes nothing.
pub mod Streams
pub mod Whole
pub mod Step
pub mod Lent
pub mod Account
pub mod Demand3
pub mod Independence
pub mod Private
