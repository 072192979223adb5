-- What the contracts on a panel with another inner size cite, and their theorem after a sheet.
pub mod Axes
pub mod Resized
pub mod Theorem
