-- Numbers in decimal, as ASCII octets: the definitions that contracts cite. Assumes nothing.
pub mod Decimal
pub mod Reading
