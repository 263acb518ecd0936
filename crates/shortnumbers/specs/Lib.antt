-- Short sequence numbers, by the idea of RFC 4737, section 6: the definitions that contracts cite.
pub mod Number
pub mod InTurn
pub mod Lists
pub mod Steps
pub mod Cases
pub mod Private
