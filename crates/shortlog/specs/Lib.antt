-- Text logs of short sequence numbers: the definitions that contracts cite.
pub mod Found
pub mod Cases
