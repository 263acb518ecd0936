-- What each call returns (Figures, Gaps, Rows, Report and Agreement, over Sample), and that moving the clock changes nothing (Moved).
-- Assumes nothing.
pub mod Sample
pub mod Records
pub mod Figures
pub mod Gaps
pub mod Rows
pub mod Report
pub mod Agreement
pub mod Moved
pub mod Private
