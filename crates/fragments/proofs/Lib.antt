-- Laws of the definitions of specs/. Assumes nothing.
pub mod Laws
pub mod Judged
pub mod Numbers
pub mod Groups
pub mod Coverage
pub mod Runs
pub mod Noting
pub mod Packets
pub mod Copies
pub mod Seen
pub mod Accepted
pub mod Cases
pub mod Whole
pub mod Filling
