-- OWAMP packet records: layout, order and clock, refusals, the answers of the calls, and round trips. Assumes nothing.
pub mod Record
pub mod Order
pub mod Clock
pub mod Judge
pub mod Calls
pub mod RoundTrip
pub mod Cases
pub mod Private
