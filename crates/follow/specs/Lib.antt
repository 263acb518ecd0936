-- What a receiver says of the lines of a text log: the text of a line, and the call's answer. Assumes nothing.
pub mod Text
pub mod Follow
