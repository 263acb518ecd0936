-- Laws of the log of a sample.
mod SampleLog
