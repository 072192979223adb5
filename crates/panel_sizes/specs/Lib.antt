-- What the contracts on sizes at another inner size cite, and their theorem after a sheet.
pub mod Sizes
pub mod Runs
