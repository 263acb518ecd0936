-- What private functions say to each other: no public contract reaches these definitions. Assumes nothing.
pub mod Lines
