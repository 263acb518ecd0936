-- Laws of the summary. Assumes nothing.
mod Pieces
mod Back
pub mod Escapes
mod Counted
mod Sections
