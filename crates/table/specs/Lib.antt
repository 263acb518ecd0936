-- Every record of a sample with named fields, down to the octet. Assumes nothing.
pub mod Fields
pub mod Text
pub mod Private
