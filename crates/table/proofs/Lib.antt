-- Laws of the definitions of specs/. Assumes nothing.
pub mod Pieces
pub mod Laws
pub mod FromRows
pub mod Joined
pub mod Filled
