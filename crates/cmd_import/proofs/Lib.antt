-- Laws of the sample file of a text log or of records.
mod Sampled
