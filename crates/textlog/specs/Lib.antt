-- Text logs: the definitions that contracts cite.
pub mod Form
pub mod Decode
pub mod Numbers
pub mod Calls
pub mod RoundTrip
pub mod Cases
pub mod Private
