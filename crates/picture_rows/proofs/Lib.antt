-- Laws of a row in the table of areas.
pub mod Runs
pub mod Settled
pub mod Counts
pub mod Same
pub mod Pictures
