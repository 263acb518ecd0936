-- The text log that the program writes.
pub mod SampleLog
