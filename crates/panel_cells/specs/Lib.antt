-- What the contracts on cells of areas cite.
pub mod Cells
pub mod Steps
