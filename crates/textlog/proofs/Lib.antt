-- Laws of text logs, and some lines and logs computed.
mod LeadingDigits
mod ReadHasForm
mod FormIsRead
pub mod Lines
mod LinesAtPlaces
pub mod Judging
pub mod Turns
pub mod PartFilled
pub mod Filling
pub mod Accepted
pub mod Answers
mod WrittenLines
pub mod RoundTrips
mod Cases
