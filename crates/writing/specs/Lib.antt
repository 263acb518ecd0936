-- Parts of a text, one after the other, and memory after a text was copied to it if it had room. Assumes nothing.
pub mod Parts
pub mod Put
pub mod Numbers
