-- Laws of the words of the refusals.
mod Asked
