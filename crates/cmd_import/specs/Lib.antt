-- What the program makes of its arguments and of its input.
pub mod Arguments
pub mod Convert
