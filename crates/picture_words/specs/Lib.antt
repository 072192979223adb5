-- What the contracts on the words of a `row` line cite.
pub mod Words
pub mod Runs
