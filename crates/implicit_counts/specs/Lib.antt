-- What the contracts on implicit tracks by argument cite, and their theorem after a sheet.
pub mod Counts
pub mod Theorem
