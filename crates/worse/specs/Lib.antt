-- Which of two samples is the worse one. Assumes nothing.
pub mod Worse
