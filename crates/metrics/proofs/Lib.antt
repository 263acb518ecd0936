-- Laws of the engine. Assumes nothing.
pub mod FoundInFile
pub mod Records
pub mod TablesFollow
pub mod Reordered
pub mod AnswersByClass
pub mod OneArrivalMore
pub mod CountsBySeen
pub mod Links
pub mod NotingArrivals
pub mod Pairs
pub mod EngineState
pub mod Accommodation
pub mod Shares
pub mod Discovered
pub mod RecordsAsked
pub mod RowLaws
pub mod GapLists
pub mod DigitBounds
pub mod Listed
pub mod Common
mod Agreed
mod Passing
pub mod Moved
