-- What private functions and proofs say to each other. Assumes nothing.
pub mod Pieces
pub mod Rows
