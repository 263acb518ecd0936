-- Laws of disorder, and of a file. Assumes nothing.
pub mod Disorder
mod DisorderInFile
mod Moved
