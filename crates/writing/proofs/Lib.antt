-- Laws of the definitions of specs/, for the proofs of the crates that write texts. Assumes nothing.
pub mod Put
pub mod Added
