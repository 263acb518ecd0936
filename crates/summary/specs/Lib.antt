-- The summary of a sample to the octet: as text, as JSON, and with the other figures of the whole sample. Assumes nothing.
pub mod Figures
pub mod Text
pub mod Json
pub mod All
pub mod Private
