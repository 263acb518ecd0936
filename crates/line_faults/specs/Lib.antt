-- What is wrong with a line of a text log: the definitions that contracts cite.
pub mod Faults
pub mod Cases
