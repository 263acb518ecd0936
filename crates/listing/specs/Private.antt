-- Definitions for the contracts of private functions, which no public contract reaches. Assumes nothing.
pub mod Written
