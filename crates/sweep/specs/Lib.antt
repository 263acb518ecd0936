-- The sweep: the figures of a record, and the answer of the call. Assumes nothing.
pub mod Figures
pub mod Calls
pub mod Private
