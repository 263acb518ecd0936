-- Laws of the definitions of specs/.
pub mod Clocks
pub mod Reading
pub mod InTurn
pub mod Paired
pub mod Sorting
mod Reversing
pub mod Converted
pub mod Answers
pub mod Accepted
pub mod RoundTrips
pub mod Writing
pub mod Cases
pub mod Greatest
