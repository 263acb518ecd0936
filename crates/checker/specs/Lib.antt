-- The verdict on a listing, by its lines, and two claims about it. Assumes nothing.
pub mod Verdict
pub mod Claims
pub mod Cases
pub mod Private
