-- The lines of the table, computed.
mod Cases
