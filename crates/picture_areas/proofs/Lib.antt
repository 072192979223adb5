-- Laws of a run in the table of areas.
pub mod Runs
pub mod Same
