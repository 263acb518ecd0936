-- Laws of the sweep. Assumes nothing.
pub mod Marks
pub mod Records
pub mod PassInvariant
pub mod Answers
pub mod Moved
