-- Laws of the parts of a text.
mod Parts
