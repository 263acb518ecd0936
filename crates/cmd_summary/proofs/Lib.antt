-- Laws of the program's text. Assumes nothing.
mod Shown
