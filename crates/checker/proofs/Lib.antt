-- Laws of the verdict. Assumes nothing.
mod Lines
mod Feeds
mod Claims
mod Cases
mod Answers
