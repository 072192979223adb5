-- What the contracts on the least resize cite.
pub mod Resize
pub mod Search
pub mod Whole
pub mod Percentages
pub mod Steps
pub mod Answer
pub mod Asked
