-- Laws of the definitions of specs/. Assumes nothing.
pub mod Numbers
pub mod InTurn
pub mod Lists
pub mod Steps
pub mod Cases
