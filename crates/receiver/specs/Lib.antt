-- The receiver's rule, after the scope's "The receiver": a fresh receiver, a fit state, and the step. Assumes nothing.
pub mod Limits
pub mod Outcomes
pub mod Marks
pub mod Kept
pub mod Fit
pub mod Step
pub mod Parts
pub mod Lent
pub mod Numbering
pub mod Account
pub mod Demand3
pub mod WindowCases
pub mod Moved
pub mod Private
