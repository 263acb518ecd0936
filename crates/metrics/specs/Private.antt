-- What private functions say to each other: no public contract reaches these definitions. Assumes nothing.
pub mod Tables
pub mod Steps
pub mod Engine
pub mod Taken
pub mod Needs
pub mod Rows
