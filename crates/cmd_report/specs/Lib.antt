-- What the report program prints. Assumes nothing.
pub mod Text
