-- The walks and laws that functions share. Assumes nothing.
mod Followed
mod Measured
