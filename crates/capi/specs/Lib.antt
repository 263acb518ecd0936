-- The answers of the calls as C sees them: figures in arrays of u64. Assumes nothing.
pub mod Sample
pub mod Imports
pub mod Lines
pub mod Figures
pub mod Sweep
pub mod Worse
pub mod Buffering
pub mod Checker
pub mod Outcomes
pub mod Follow
pub mod Receiver
pub mod Version
