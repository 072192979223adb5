-- What the contracts on placements by argument cite, and their theorem after a sheet.
pub mod Ends
pub mod Given
pub mod Theorem
pub mod Fields
