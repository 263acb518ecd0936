-- The report's lines, down to the octet. Assumes nothing.
pub mod Words
pub mod Lines
pub mod Example
pub mod Room
pub mod DigitBounds
pub mod Private
