-- Laws of logs of short numbers.
mod Turns
mod TrueNumbers
mod Cases
