-- Laws of the receiver that restores order, and of the search for the least size. Assumes nothing.
pub mod InTime
pub mod Held
pub mod InOrder
pub mod Restored
pub mod Sizes
