-- Laws behind the meter's step, demand 3 and independence. Assumes nothing.
pub mod CallsByStream
pub mod PlacesFacing
pub mod KeptJumps
pub mod Carries
pub mod Demand3
pub mod Independence
pub mod Meters
