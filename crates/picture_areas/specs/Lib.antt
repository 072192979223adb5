-- What the contracts on a run in the table of areas cite.
pub mod Runs
