-- What the contract of the call cites, and its theorem after a sheet.
pub mod Resize
pub mod Runs
